-- An owner of no host is the null address and the handle that it is given.
use Rattle.std.proofs.Common.{[], ◌∷◌, refl}
use Rattle.std.specs.Prelude.{None}
use Rattle.std.proofs.raw_atomic.Walks.{proved}
use base.Logic.{emp}
use base.Fml.{ftrue, fsep}
use types.Kit.{‵, raw, ◌⊛◌, ◌$◌, ◌∵◌, !, qed, done, move, keep, drop, use1, split, fsplit, fjoin, suffices}
use types.Run.{enter, of_opd, lit, no_more, and_then, returns}
use types.ByLocal.{alloc_all, pass_all, free_all, look_at, get, sets}
use types.Part.{agg}
use denote.Exit.{yes}
use denote.RawPtr.{null_ptr}
use denote.Signature.{plain}
use denote.Struct.Owning.{to}
use denote.Steps.{nothing}
use denote.Triple.Walked.{Stays, walk_of, says, stay_dropped, Goes-dropped, ends_at}
use Rattle.std_heap.specs.contracts.Global as Heap
use Rattle.std_heap.proofs.Handle.{heap_val, heap_Tells}
use Rattle.sip_c.specs.contracts.owned.Owned as Owner
use Rattle.sip_c.specs.contracts.owned.Owned.empty as f
use Rattle.sip_c.proofs.owned.Owned.empty.Statement.{statement}
use Rattle.sip_c.proofs.owned.Owned.empty.Code as code
use Rattle.sip_c.proofs.HostStored.{only_result, pair, address_fits, handle_fits, pair_fits, Fields, pair_of}

abbrev stayed : Stays f.ended.signature.params f.ended.kept
stayed = (stay_dropped _ yes, tt)

pub empty_spec : {M : Type 1} → statement M
empty_spec 𝓤 𝓛 𝓜 𝓡 wired =
    let c = f.clauses 𝓛 𝓜.mem 𝓡.returns in let W = walk_of 𝓛 f.ended stayed c in
    proved 𝓛 f.ended stayed c 𝓜 𝓡 (
      Goes-dropped 𝓛 0 (plain (λ _. Heap.the_row)) yes
          (λ κs x w. refl),
      tt,
    )
    f.Key.name code.function (code.unfolded 𝓤 𝓛.H 𝓜 𝓡 wired)
    (λ κs. ((λ alloc. heap_val ∷ []), tt)) (λ κs. (heap_Tells, tt)) (λ κs qs bounds a _ are.
    let alloc = a.0 in let y : W.Ghost = ((κs, qs, bounds, a, (heap_val ∷ [], tt)), tt) in
    let owned : Owner.the_row.Denot = record { at = null_ptr; alloc = alloc; host = None } in
    qed 𝓛 ((‵ ftrue ⊛ ‵ (fsep (Heap.the_row.own_val alloc (heap_val ∷ [])) ftrue)) ∷ raw (emp 𝓤)
    ∷ []) ∵ split ! $ drop ! $ fsplit ! $
    -- [the handle; nothing; nothing asked]
    enter ! _ _ _ _ _ $ alloc_all ! (λ l. pass_all ! refl (handle_fits, tt) $
    sets ! (of_opd ! (lit ! tt)) refl (address_fits null_ptr) $
    sets ! (agg ! (and_then ! (get ! refl) (and_then ! (get ! refl) (no_more !)))) refl
    (pair_fits null_ptr) $
    returns ! (look_at ! 0 refl) $ free_all ! refl $ keep ! (0 ∷ []) $
    -- the handle is that of the fields, and there is nothing at null
    use1 𝓛 (‵ (Fields.own_val (to Owner.the_type owned) (pair null_ptr ∷ []))) (pair_of 𝓛 owned) $
    nothing ! $ move ! (1 ∷ 0 ∷ []) $ fjoin ! $
    suffices ! _ (ends_at 𝓛 f.ended stayed c y (pair null_ptr) owned (tt, tt) (tt, tt)) $
    says ! refl $
    only_result ! $ done !))
