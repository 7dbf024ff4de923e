-- How the owner of a host is stored: as an address and a handle of the heap. What a walk through a
-- function knows of the two.
--     pair, pair_fits      the machine value of the two, and its type
--     owner_tells          an owner is stored as the pair of its address
--     handle_of, pair_of   what the fields own is what the handle owns, and back
--     only_result          the end of a walk that keeps nothing but its result
--     two_lifetimes, within_both     what a call of a function over a host and the heap gets
--                          besides its arguments
use Rattle.std.proofs.Common.{◌≡◌, ℕ, List, [], ◌∷◌, refl, lit<, T}
use Rattle.std.specs.Prelude.{Option, Some, None, IsSome}
use Rattle.std.proofs.lemmas.Bool.{false≢true}
use seplogic.Ra.Ura.{Ura}
use base.Fraction.{full_share}
use base.Logic.{ent, emp}
use base.Fml.{Fml, Lft, ftrue, fsep, flft}
use mir.Raw.{raw as raw_type}
use mir.Syntax.{Dict, Tys, impl, ty_ptr, tcons, tnil, dnil}
use mir.Val.{Val, vstruct, vcons, vnil, has_ty, WT}
use prog.Erase.{raw-raw}
use types.Logic.{Logic, sem}
use types.Kit.{Goal, Soaks, Seq, Step, step, Item, ‵, raw, ◌⊛◌, ◌$◌, ◌∵◌, !, qed, move, keep, drop, use0, join, rewrite, fsplit, fjoin, fpick, fpack, feq_i, done}
use types.Tokens.{lft_new}
use contract.Monad.{fact, fact_i}
use contract.BorrowLft.{◌⊑◌}
use denote.RattleType.{RattleType, Valss}
use denote.Laws.{Is, Tells, shows}
use denote.Exit.{no}
use denote.Param.{arg, layout}
use denote.Param.Laws.{Laws, arg_laws}
use denote.RawPtr.{Ptr, RawPtr, block_ptr, null_ptr, ptr_val, rawptr_vals, rawptr_Tells}
use denote.Steps.{nothing, peeks}
use denote.Struct.Struct.{Struct, Struct-Tells, within}
use denote.Struct.Declared.{shape as tuple_shape}
use denote.Struct.Tuple.{Tuple, tuple_type}
use denote.Struct.Owning.{shape, to, fields}
use denote.Struct.OwningLaws as owning
use Rattle.std_heap.proofs.Handle.{heap_val, heap_Tells}
use Rattle.std_alloc.specs.contracts.boxed.Box as Box
use Rattle.std_heap.specs.contracts.Global as Heap
use Rattle.std_heap.specs.contracts.GlobalAllocator.TheImpl.{ghosts}
use Rattle.std_heap.proofs.Global.TheLaws as heap
use Rattle.sip_host.specs.contracts.host.Host as Home
use Rattle.sip_host.proofs.host.Host.TheLaws as home
use Rattle.sip_c.specs.contracts.owned.Owned as Owner
use Rattle.sip_c.proofs.owned.Owned.TheLaws as owner

-- the host of an owner that has one
pub a_host : (held : Option Home.the_row.Denot) → IsSome held → (host : Home.the_row.Denot)
    × (held ≡ Some host)
a_host None some = absurd (false≢true some)
a_host (Some host) some = (host, refl)

-- ---- machine values
abbrev pub pair : Ptr → Val
pair at = vstruct (vcons (ptr_val at) (vcons heap_val vnil))

abbrev pub kinds : Tys
kinds = tcons ty_ptr (tcons heap.mir tnil)

pub address_fits : (at : Ptr) → T (has_ty ty_ptr (ptr_val at)) × WT (ptr_val at)
address_fits (block_ptr b o) = (tt, tt)
address_fits null_ptr = (tt, record { fits = lit< tt })

pub handle_fits : T (has_ty heap.mir heap_val) × WT heap_val
handle_fits = (tt, ((tt, tt), tt))

pub pair_fits : (at : Ptr) → T (has_ty owner.mir (pair at)) × WT (pair at)
pair_fits (block_ptr b o) = (tt, (tt, (handle_fits.1, tt)))
pair_fits null_ptr = (tt, (record { fits = lit< tt }, (handle_fits.1, tt)))

pub owner_tells : Tells Owner.the_row (Is Owner.the_row) (λ owned. pair owned.at ∷ [])
owner_tells = owning.tells Owner.the_type owner.the_laws

-- a box of a host, and the tuple of its address and its handle, are stored alike
abbrev pub Boxed : RattleType
Boxed = Box.the_row Home.the_row Heap.the_row ghosts

abbrev pub Both : RattleType
Both = Tuple (RawPtr ∷ Heap.the_row ∷ [])

pub box_tells : Tells Boxed (Is Boxed) (λ boxed. pair boxed.ptr ∷ [])
box_tells boxed words is =
    let box = Box.the_type Home.the_row Heap.the_row ghosts in
    Struct-Tells (shape box) (rawptr_vals, ((λ _. heap_val ∷ []), tt))
    (rawptr_Tells, (heap_Tells, tt)) (to box boxed) words is.0

pub both_tells : Tells Both (Is Both) (λ both. pair both.0 ∷ [])
both_tells both words is =
    Struct-Tells (tuple_shape (tuple_type (RawPtr ∷ Heap.the_row ∷ [])))
    (rawptr_vals, ((λ _. heap_val ∷ []), tt)) (rawptr_Tells, (heap_Tells, tt))
    (both.0, (both.1, tt)) words is

-- ---- what is owned
abbrev pub Fields : RattleType
Fields = Struct (shape Owner.the_type)

module _ {M : Type 1} {𝓤 : Ura M} (𝓛 : Logic 𝓤) (owned : Owner.the_row.Denot) where
  pub handle_of : (words : List Val) → ent 𝓤 (sem 𝓛
      (Fields.own_val (to Owner.the_type owned) words))
      (sem 𝓛 (Heap.the_row.own_val owned.alloc (heap_val ∷ [])))
  handle_of words =
      qed 𝓛 (‵ (Fields.own_val (to Owner.the_type owned) words) ∷ [])
      ∵ fpick ! (λ each. fsplit ! $ drop ! $ fsplit ! $ drop ! $ fsplit ! $
      -- [the handle at its words; nothing]
      peeks ! Heap.the_row (Is Heap.the_row) (shows 𝓛 Heap.the_row) owned.alloc each.1.0 (λ is.
      rewrite ! 0 (λ (at_words : List Val). ‵ (Heap.the_row.own_val owned.alloc at_words))
      (heap_Tells owned.alloc each.1.0 is) refl $ keep ! (0 ∷ []) $ done !))

  pub pair_of : ent 𝓤 (sem 𝓛 (Heap.the_row.own_val owned.alloc (heap_val ∷ [])))
      (sem 𝓛 (Fields.own_val (to Owner.the_type owned) (pair owned.at ∷ [])))
  pair_of =
      let word = ptr_val owned.at ∷ [] in let both = pair owned.at ∷ [] in
      qed 𝓛 (‵ (Heap.the_row.own_val owned.alloc (heap_val ∷ [])) ∷ []) ∵ nothing ! $
      move ! (1 ∷ 0 ∷ []) $ fjoin ! $
      feq_i ! (List Val) word word refl $ fjoin ! $ feq_i ! (List Val) both both refl $ fjoin ! $
      fpack ! (Valss (fields Owner.the_type)) (within (shape Owner.the_type)
      (to Owner.the_type owned) both) (word, (heap_val ∷ [], tt)) $ done !

-- ---- a call over a host and the heap
-- each as the type argument of a call, which knows a type by its layout without names
abbrev pub Host : RattleType
Host = arg (raw_type (layout Home.the_row)) no Home.the_row

abbrev pub Handle : RattleType
Handle = arg (raw_type (layout Heap.the_row)) no Heap.the_row

pub host_laws : Laws Host
host_laws =
    arg_laws (raw_type (layout Home.the_row)) no Home.the_row home.the_row_laws
    (raw-raw (layout Home.the_row))

pub handle_laws : Laws Handle
handle_laws =
    arg_laws (raw_type (layout Heap.the_row)) no Heap.the_row heap.the_row_laws
    (raw-raw (layout Heap.the_row))

-- nothing is done when a handle is dropped
abbrev pub handle_drops : Dict
handle_drops = impl ("sip_c::Destruct++none::drop" ∷ []) (tcons (layout Handle) tnil) dnil

abbrev pub alive : {M : Type 1} {𝓤 : Ura M} → Lft → Lft → Item 𝓤
alive κ ν = ‵ (flft κ full_share) ⊛ ‵ (flft ν full_share) ⊛ ‵ ftrue

module _ {M : Type 1} {𝓤 : Ura M} {𝓛 : Logic 𝓤} {K : Type 0} {Γ : List (Item 𝓤)} {G : Goal 𝓤 𝓛.H}
  where
    -- no token is left, nothing of the parameter is left, and the result is handed over
    pub only_result : K → {owned : Fml}
        → Step K 𝓛 ((‵ ftrue ⊛ ‵ (fsep ftrue ftrue) ⊛ ‵ owned) ∷ Γ) G (‵ owned ∷ Γ) G
    only_result t = step (λ s. nothing t $ nothing t $ fjoin t $ join t $ nothing t $ join t $ s)

    -- two lifetimes that begin here, one for each type
    pub two_lifetimes : K → Soaks G → ((α β : ℕ) → Seq K 𝓛 (alive (α ∷ []) (β ∷ []) ∷ Γ) G)
        → Seq K 𝓛 Γ G
    two_lifetimes t soaks k =
        lft_new t soaks (λ β. nothing t $ move t (1 ∷ 0 ∷ []) $ join t $
        lft_new t soaks (λ α. join t $ k α β))

    -- a host and a handle of the heap borrow nothing, so they outlive any two
    pub within_both : K → (κ ν : Lft) {asked : Item 𝓤}
        → Step K 𝓛 ((raw (fact 𝓤 (κ ⊑ Home.the_row.lives)) ⊛ raw (fact 𝓤 (ν ⊑ Heap.the_row.lives))
        ⊛ asked) ∷ Γ) G (asked ∷ Γ) G
    within_both t κ ν = step (λ s.
        use0 𝓛 (raw (fact 𝓤 (ν ⊑ Heap.the_row.lives))) (fact_i 𝓤 (ν ⊑ Heap.the_row.lives) (emp 𝓤)
        (heap.the_within ν)) $ join t $
        use0 𝓛 (raw (fact 𝓤 (κ ⊑ Home.the_row.lives))) (fact_i 𝓤 (κ ⊑ Home.the_row.lives) (emp 𝓤)
        (home.the_within κ)) $ join t $ s)
