-- The box of a host is taken apart, and the owner gets what the box owned.
use Rattle.std.proofs.Common.{◌≡◌, List, [], ◌∷◌, refl, sym, ap}
use Rattle.std.specs.Prelude.{Some}
use Rattle.std.proofs.raw_atomic.Walks.{proved}
use seplogic.Ra.Ura.{Ura}
use base.Logic.{sep, emp, id⊢}
use base.Fml.{ftrue, fsep}
use base.Fraction.{full_share}
use mir.Syntax.{Dict, impl, method, no_args, ty_ptr, tnil, dnil}
use mir.Val.{Val}
use contract.Monad.{fact}
use contract.Running.{Running, tables}
use contract.BorrowLft.{◌⊑◌}
use prog.Model.{Model}
use prog.Wired.{Wired}
use types.Logic.{Logic, sem}
use types.Kit.{‵, raw, ◌⊛◌, some, later, ◌$◌, ◌∵◌, !, qed, done, move, keep, drop, use0, use1, split, join, fjoin, pick, show, await, rewrite, suffices}
use types.Run.{enter, of_opd, stop, fld, no_more, and_then, returns}
use types.ByLocal.{alloc_all, pass_all, free_all, look_at, get, get_in, sets, lands_as}
use types.Part.{whole, sub, agg}
use denote.Exit.{yes}
use denote.Laws.{Is, shows}
use denote.Param.Glue as glue
use denote.Param.NoDrop.{glues}
use denote.RawPtr.{Ptr}
use denote.Signature.{plain}
use denote.Steps.{heard, nothing, only, peeks}
use denote.Struct.Owning.{to}
use denote.Triple.Call.{calls_at}
use denote.Triple.Carry.{beside, spared}
use denote.Triple.Clauses.{Ended, Lasts, lasts}
use denote.Triple.Spec.{Spec, triple_of}
use denote.Triple.Table.{framed, run_framed, widened}
use denote.Triple.Walked.{Stays, walk_of, says, stay_dropped, Goes-dropped, ends_at}
use Rattle.std.specs.Box.Ownership.{box_owns}
use Rattle.std_alloc.specs.contracts.boxed.Box.into_raw_with_allocator as g
use Rattle.std_alloc.proofs.boxed.Box.into_raw_with_allocator.Met as taken
use Rattle.std_heap.specs.contracts.Global as Heap
use Rattle.std_heap.specs.contracts.GlobalAllocator.TheImpl.{ghosts, dict}
use Rattle.std_heap.proofs.Global.TheLaws as heap
use Rattle.std_heap.proofs.GlobalAllocator.TheImpl.Met as allocator
use Rattle.sip_host.specs.contracts.host.Host as Home
use Rattle.sip_c.specs.contracts.owned.Owned as Owner
use Rattle.sip_c.specs.contracts.owned.Owned.of as f
use Rattle.sip_c.specs.contracts.sip_host++host++Host+Destruct.drop as ended
use Rattle.sip_c.proofs.sip_host++host++Host+Destruct.drop.Met as ended_met
use Rattle.sip_c.proofs.sip_host++host++Host+Destruct.drop.Symbol as ended_symbol
use Rattle.sip_c.proofs.owned.Owned.of.Statement.{statement}
use Rattle.sip_c.proofs.owned.Owned.of.Code as code
use Rattle.sip_c.proofs.Destruct++none.drop.Code as none
use Rattle.sip_c.proofs.HostStored.{only_result, pair, kinds, address_fits, handle_fits, pair_fits, Boxed, Both, box_tells, both_tells, Fields, Host, Handle, host_laws, handle_laws, handle_drops, alive, two_lifetimes, within_both}

abbrev stayed : Stays f.ended.signature.params f.ended.kept
stayed = (stay_dropped _ yes, tt)

-- a host is dropped by its own glue
abbrev host_drops : Dict
host_drops = impl ("sip_c::sip_host++host++Host+Destruct::drop" ∷ []) tnil dnil

-- the glue requires nothing and promises nothing
lets_host_go : {M : Type 1} (𝓤 : Ura M) (𝓛 : Logic 𝓤) (𝓜 : Model 𝓤 𝓛.H) (𝓡 : Running 𝓤 𝓛.H 𝓜)
    → Wired 𝓡.env ended_symbol.code → glue.Met 𝓛 𝓜 𝓡 𝓡.env Host host_drops
lets_host_go 𝓤 𝓛 𝓜 𝓡 wired =
    let key = method host_drops 0 no_args in let run = 𝓡.run (𝓡.env key) in
    let whole = run_framed 𝓤 𝓛.H 𝓜 𝓡 (𝓡.env key) in
    let itself = triple_of 𝓛 ended.signature (ended.spec 𝓛 𝓜.mem 𝓡.returns) in
    let as_method = widened 𝓤 𝓛.H itself 𝓜 𝓡 𝓡.env (𝓡.env ended_symbol.name) (𝓡.env key)
    (ended_symbol.as_method 𝓡.env wired key refl) (ended_met.met 𝓤 𝓛 𝓜 𝓡 wired) in
    let grown : Spec 𝓤 (glue.signature Host) = λ κs a. record {
      ghost = Unit {0};
      requires = λ _. sep 𝓤 (fact 𝓤 (κs.0 ⊑ Host.lives)) (emp 𝓤);
      ensures = λ _ r. (ended.spec 𝓛 𝓜.mem 𝓡.returns tt a).ensures tt r;
    } in
    beside 𝓛 (glue.signature Host) run whole grown (glue.spent 𝓛 Host) (λ κs a asked. asked)
    (λ κs a asked. sem 𝓛 ftrue)
    (λ κs a asked. qed 𝓛 (raw ((grown κs a).requires asked) ∷ []) ∵ nothing ! $
    move ! (1 ∷ 0 ∷ []) $ done !)
    (λ κs a asked r. qed 𝓛 (raw ((grown κs a).ensures asked r) ∷ ‵ ftrue ∷ []) ∵ keep ! [] $
    show ! (λ (last : Unit {0} × Unit {0}). sep 𝓤 (sem 𝓛 (fsep ftrue ftrue)) (emp 𝓤)) (tt, tt) $
    use0 𝓛 (raw (emp 𝓤)) (id⊢ 𝓤 (emp 𝓤)) $ nothing ! $ nothing ! $ fjoin ! $ done !)
    (spared 𝓛 ended.signature run whole 1 (Host.lives, tt) (ended.spec 𝓛 𝓜.mem 𝓡.returns) as_method)

pub of_spec : {M : Type 1} → statement M
unfolding none.code
of_spec {M} 𝓤 𝓛 𝓜 𝓡 wired =
    let c = f.clauses 𝓛 𝓜.mem 𝓡.returns in let W = walk_of 𝓛 f.ended stayed c in
    let 𝓣 = tables 𝓤 𝓛.H 𝓜 𝓡 𝓡.env in
    let G = triple_of 𝓛 (g.signature Host Handle ghosts dict handle_drops host_drops)
    (g.spec Host Handle ghosts dict handle_drops host_drops 𝓛 𝓜.mem 𝓡.returns) in
    let called : Ended = g.ended Host Handle ghosts dict handle_drops host_drops in
    let allocates = allocator.passed 𝓡.env (code.calls-std_heap::GlobalAllocator::allocate 𝓡.env
    wired) (code.calls-std_heap::GlobalAllocator::deallocate 𝓡.env wired)
    (code.calls-std_heap::GlobalAllocator::grow 𝓡.env wired)
    (code.calls-std_heap::GlobalAllocator::shrink 𝓡.env wired) M 𝓤 𝓛 𝓜 𝓡 in
    let lets_go = glues "sip_c::Destruct++none::drop" 𝓡.env
    (code.calls-sip_c::Destruct++none::drop 𝓡.env wired) Handle handle_laws M 𝓤 𝓛 𝓜 𝓡 in
    let known = taken.met 𝓤 𝓛 𝓜 𝓡 (code.calls-std_alloc::boxed::Box::into_raw_with_allocator 𝓡.env
    wired) Host Handle host_laws handle_laws ghosts dict handle_drops host_drops allocates lets_go
    (lets_host_go 𝓤 𝓛 𝓜 𝓡 (code.calls-sip_c::sip_host++host++Host+Destruct::drop 𝓡.env wired)) in
    proved 𝓛 f.ended stayed c 𝓜 𝓡 (Goes-dropped 𝓛 0 (plain (λ _. Boxed)) yes (λ κs x w. refl), tt)
    f.Key.name code.function (code.unfolded 𝓤 𝓛.H 𝓜 𝓡 wired)
    (λ κs. ((λ boxed. pair boxed.ptr ∷ []), tt)) (λ κs. (box_tells, tt)) (λ κs qs bounds a _ are.
    let boxed = a.0 in let host = boxed.value in let word = pair boxed.ptr in
    let y : W.Ghost = ((κs, qs, bounds, a, (word ∷ [], tt)), tt) in
    qed 𝓛 ((‵ ftrue ⊛ ‵ (fsep (Boxed.own_val boxed (word ∷ [])) ftrue)) ∷ raw (emp 𝓤) ∷ [])
    ∵ split ! $ drop ! $
    -- [the box; nothing asked]
    enter ! _ _ _ _ _ $ alloc_all ! (λ l. pass_all ! refl (pair_fits boxed.ptr, tt) $
    sets ! (of_opd ! (get ! refl)) refl (pair_fits boxed.ptr) $
    two_lifetimes ! tt (λ α β. let κ = α ∷ [] in let ν = β ∷ [] in
    let z : G.Ghost = (
      (
        (κ, (ν, tt)),
        (full_share, (full_share, tt)),
        tt,
        (boxed, tt),
        (word ∷ [], tt),
      ),
      tt,
    ) in
    -- the box is passed, with all that it owns
    join ! $ move ! (1 ∷ []) $ within_both ! κ ν $ move ! (1 ∷ 0 ∷ []) $ join ! $
    use1 𝓛 (raw (G.pre z)) (id⊢ 𝓤 _) $
    calls_at ! (framed 𝓤 𝓛.H 𝓜 𝓣) G known z (and_then ! (get ! refl) (no_more !)) (λ v.
    use1 𝓛 (later (some (λ (r : Ptr × Heap.the_row.Denot). (alive κ ν ⊛ ‵ (Both.own_val r (v ∷ [])))
    ⊛
    some (λ (ws : Lasts called z.0.0 z.0.3). ‵ (lasts called z.0.0 z.0.3 ws)
    ⊛ raw (fact 𝓤 (r.1 ≡ boxed.alloc)) ⊛ ‵ (box_owns (ghosts.dealloc_token boxed.alloc) Home.the_row
    r.0 host))))) (id⊢ 𝓤 _) $
    await ! tt $ pick ! (λ r. split ! $ split ! $ drop ! $ move ! (1 ∷ []) $
    pick ! (λ ws. split ! $ drop ! $ split ! $ heard ! _ (λ same.
    -- [the host at its address; the address and the handle]
    let owned : Owner.the_row.Denot = record { at = r.0; alloc = r.1; host = Some host } in
    rewrite ! 0 (λ (alloc : Heap.the_row.Denot). ‵ (box_owns (ghosts.dealloc_token alloc)
    Home.the_row r.0 host)) (sym same) refl $
    move ! (1 ∷ []) $ peeks ! Both (Is Both) (shows 𝓛 Both) r (v ∷ []) (λ told.
    rewrite ! 0 (λ (words : List Val). ‵ (Both.own_val r words)) (both_tells r (v ∷ []) told) refl $
    use1 𝓛 (‵ (Fields.own_val (to Owner.the_type owned) (pair r.0 ∷ []))) (id⊢ 𝓤 _) $
    lands_as ! (ap only (both_tells r (v ∷ []) told)) refl (pair_fits r.0) $
    sets ! (of_opd ! (get_in ! (fld ! {τ = ty_ptr} {d = 0} refl (stop !))
    (sub ! {τs = kinds} 0 {τ = ty_ptr} {d = 0} refl (whole !)))) refl (address_fits r.0) $
    sets ! (of_opd ! (get_in ! (fld ! {τ = heap.mir} {d = 8} refl (stop !))
    (sub ! {τs = kinds} 1 {τ = heap.mir} {d = 8} refl (whole !)))) refl handle_fits $
    sets ! (of_opd ! (get ! refl)) refl (address_fits r.0) $
    sets ! (agg ! (and_then ! (get ! refl) (and_then ! (get ! refl) (no_more !)))) refl
    (pair_fits r.0) $
    returns ! (look_at ! 0 refl) $ free_all ! refl $ keep ! (0 ∷ 1 ∷ []) $ fjoin ! $
    suffices ! _ (ends_at 𝓛 f.ended stayed c y (pair r.0) owned (tt, tt) (tt, tt)) $ says ! refl $
    only_result ! $ done !))))))))
