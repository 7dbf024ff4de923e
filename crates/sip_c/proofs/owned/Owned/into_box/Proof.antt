-- The box of a host is made again from its address and its handle.
use Rattle.std.proofs.Common.{◌≡◌, List, [], ◌∷◌, refl, sym, ap, ◌∙◌, T}
use Rattle.std.specs.Prelude.{Option, Some, IsSome}
use Rattle.std.proofs.raw_atomic.Walks.{proved}
use base.Logic.{id⊢}
use base.Fml.{ftrue, fsep}
use base.Fraction.{full_share}
use mir.Syntax.{ty_ptr}
use mir.Val.{Val, has_ty, WT}
use contract.Monad.{fact}
use contract.Running.{tables}
use types.Kit.{‵, raw, ◌⊛◌, some, later, at_ret, ◌$◌, ◌∵◌, !, qed, done, move, keep, drop, use1, split, join, fsplit, fjoin, feq_i, pick, await, rewrite, suffices}
use types.Run.{enter, of_opd, stop, fld, no_more, and_then, first, blocks, exec, returns}
use types.ByLocal.{alloc_all, pass_all, free_all, look_at, get, get_in, sets, lands_last, env}
use types.Part.{whole, sub}
use denote.Exit.{yes}
use denote.Laws.{Is, shows}
use denote.Param.{layout}
use denote.Param.NoDrop.{glues}
use denote.RawPtr.{ptr_val}
use denote.Signature.{plain}
use denote.Steps.{heard, nothing, peeks}
use denote.Triple.Call.{calls_at_last}
use denote.Triple.Spec.{triple_of}
use denote.Triple.Table.{framed}
use denote.Triple.Walked.{Stays, walk_of, says, stay_dropped, Goes-dropped, ends_at}
use Rattle.std_alloc.proofs.boxed.Box.TheLaws as box
use Rattle.std_alloc.specs.contracts.boxed.Box.from_raw as g
use Rattle.std_alloc.proofs.boxed.Box.from_raw.Met as made
use Rattle.std_heap.specs.contracts.Global as Heap
use Rattle.std_heap.specs.contracts.GlobalAllocator.TheImpl.{ghosts, dict}
use Rattle.std_heap.proofs.Global.TheLaws as heap
use Rattle.std_heap.proofs.GlobalAllocator.TheImpl.Met as allocator
use Rattle.std_heap.proofs.Handle.{heap_val}
use Rattle.sip_host.specs.contracts.host.Host as Home
use Rattle.sip_host.proofs.host.Host.TheLaws as home
use Rattle.sip_c.specs.Owned.{owned_owns}
use Rattle.sip_c.specs.contracts.owned.Owned as Owner
use Rattle.sip_c.specs.contracts.owned.Owned.into_box as f
use Rattle.sip_c.proofs.owned.Owned.into_box.Statement.{statement}
use Rattle.sip_c.proofs.owned.Owned.into_box.Code as code
use Rattle.sip_c.proofs.Destruct++none.drop.Code as none
use Rattle.sip_c.proofs.HostStored.{a_host, only_result, pair, Boxed, kinds, address_fits, handle_fits, pair_fits, owner_tells, handle_of, Host, Handle, host_laws, handle_laws, handle_drops, alive, two_lifetimes, within_both}

abbrev stayed : Stays f.ended.signature.params f.ended.kept
stayed = (stay_dropped _ yes, tt)

pub into_box_spec : {M : Type 1} → statement M
unfolding none.code
into_box_spec {M} 𝓤 𝓛 𝓜 𝓡 wired =
    let c = f.clauses 𝓛 𝓜.mem 𝓡.returns in let W = walk_of 𝓛 f.ended stayed c in
    let 𝓣 = tables 𝓤 𝓛.H 𝓜 𝓡 𝓡.env in
    let G = triple_of 𝓛 (g.signature Host Handle ghosts dict handle_drops)
    (g.spec Host Handle ghosts dict handle_drops 𝓛 𝓜.mem 𝓡.returns) in
    let allocates = allocator.passed 𝓡.env (code.calls-std_heap::GlobalAllocator::allocate 𝓡.env
    wired) (code.calls-std_heap::GlobalAllocator::deallocate 𝓡.env wired)
    (code.calls-std_heap::GlobalAllocator::grow 𝓡.env wired)
    (code.calls-std_heap::GlobalAllocator::shrink 𝓡.env wired) M 𝓤 𝓛 𝓜 𝓡 in
    let lets_go = glues "sip_c::Destruct++none::drop" 𝓡.env
    (code.calls-sip_c::Destruct++none::drop 𝓡.env wired) Handle handle_laws M 𝓤 𝓛 𝓜 𝓡 in
    let known = made.met 𝓤 𝓛 𝓜 𝓡 (code.calls-std_alloc::boxed::Box::from_raw 𝓡.env wired) Host
    Handle host_laws handle_laws ghosts dict handle_drops allocates lets_go in
    proved 𝓛 f.ended stayed c 𝓜 𝓡 (
      Goes-dropped 𝓛 0 (plain (λ _. Owner.the_row)) yes
          (λ κs x w. refl),
      tt,
    )
    f.Key.name code.function (code.unfolded 𝓤 𝓛.H 𝓜 𝓡 wired)
    (λ κs. ((λ owned. pair owned.at ∷ []), tt)) (λ κs. (owner_tells, tt)) (λ κs qs bounds a _ are.
    let owned = a.0 in let at = owned.at in let alloc = owned.alloc in
    let y : W.Ghost = ((κs, qs, bounds, a, (pair at ∷ [], tt)), tt) in
    qed 𝓛 ((‵ ftrue ⊛ ‵ (fsep (Owner.the_row.own_val owned (pair at ∷ [])) ftrue))
    ∷ raw (fact 𝓤 (IsSome owned.host)) ∷ []) ∵ move ! (1 ∷ []) $ heard ! _ (λ held.
    let host = (a_host owned.host held).0 in let is = (a_host owned.host held).1 in
    split ! $ drop ! $ fsplit ! $ fsplit ! $ use1 𝓛 (‵ (Heap.the_row.own_val alloc (heap_val ∷ [])))
    (handle_of 𝓛 owned (pair at ∷ [])) $
    move ! (1 ∷ []) $ rewrite ! 0 (λ (held_host : Option Home.the_row.Denot). ‵
    (owned_owns alloc at held_host)) is refl $
    -- [the host at its address, with the right to free it; the handle; nothing]
    enter ! _ _ _ _ _ $ alloc_all ! (λ l. pass_all ! refl (pair_fits at, tt) $
    sets ! (of_opd ! (get_in ! (fld ! {τ = ty_ptr} {d = 0} refl (stop !))
    (sub ! {τs = kinds} 0 {τ = ty_ptr} {d = 0} refl (whole !)))) refl (address_fits at) $
    sets ! (of_opd ! (get_in ! (fld ! {τ = heap.mir} {d = 8} refl (stop !))
    (sub ! {τs = kinds} 1 {τ = heap.mir} {d = 8} refl (whole !)))) refl handle_fits $
    first ! $ blocks ! $ sets ! (of_opd ! (get ! refl)) refl (address_fits at) $
    two_lifetimes ! tt (λ α β. let κ = α ∷ [] in let ν = β ∷ [] in
    let z : G.Ghost = (
      (
        (κ, (ν, tt)),
        (full_share, (full_share, tt)),
        tt,
        (alloc, (at, tt)),
        (heap_val ∷ [], (ptr_val at ∷ [], tt)),
      ),
      host,
    ) in
    -- [the lifetimes; the host; the handle; nothing]: the arguments, then what the call requires
    move ! (2 ∷ []) $ nothing ! $ feq_i ! (List Val) (ptr_val at ∷ []) (ptr_val at ∷ []) refl $
    fjoin ! $ move ! (1 ∷ 0 ∷ []) $ fjoin ! $
    move ! (1 ∷ 0 ∷ []) $ join ! $ move ! (1 ∷ []) $ within_both ! κ ν $ move ! (1 ∷ 0 ∷ []) $
    join ! $ use1 𝓛 (raw (G.pre z)) (id⊢ 𝓤 _) $
    calls_at_last ! (framed 𝓤 𝓛.H 𝓜 𝓣) G known z (and_then ! (get ! refl)
    (and_then ! (get ! refl) (no_more !))) (λ v.
    use1 𝓛 (later (some (λ (r : Boxed.Denot). (alive κ ν ⊛ ‵ (Boxed.own_val r (v ∷ []))) ⊛
    some (λ (ws : Unit {0} × (Unit {0} × Unit {0})). ‵ (fsep ftrue (fsep ftrue ftrue))
    ⊛ raw (fact 𝓤 (r.value ≡ host)) ⊛ raw (fact 𝓤 (r.alloc ≡ alloc)))))) (id⊢ 𝓤 _) $
    await ! tt $ pick ! (λ r. split ! $ split ! $ drop ! $ move ! (1 ∷ []) $
    pick ! (λ ws. split ! $ drop ! $ split ! $ heard ! _ (λ same. drop ! $
    -- [the box; nothing]
    peeks ! Boxed (Is Boxed) (shows 𝓛 Boxed) r (v ∷ []) (λ told.
    let fits : T (has_ty (layout Boxed) v) × WT v = (((box.the_field_loose Home.the_row Heap.the_row
    ghosts home.the_row_laws heap.the_row_laws).lawful 𝓛).typed r (v ∷ []) told).0 in
    lands_last ! refl fits $ exec ! 𝓣.C 𝓣.Λ (env code.function.locals l) code.Mir.t-4
    (at_ret _ (W.post y)) $
    sets ! (of_opd ! (get ! refl)) refl fits $ returns ! (look_at ! 0 refl) $ free_all ! refl $
    keep ! (0 ∷ []) $
    suffices ! _ (ends_at 𝓛 f.ended stayed c y v r (tt, tt) (tt, tt)) $
    says ! (is ∙ ap Some (sym same)) $
    only_result ! $ done !)))))))))
