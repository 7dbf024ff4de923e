-- `ByNumber::change` changes the first request of the id, by its number.
use Rattle.std.proofs.Common.{◌≡◌, Some, sym, ap, ◌∙◌, arith}
use Rattle.std.specs.Map.{values_of}
use Rattle.std.specs.Prelude.{is_some}
use Rattle.std.specs.Option.{option_and_then, option_copied_mut}
use Rattle.std.proofs.lemmas.Bool.{false≢true}
use Rattle.sip_message.specs.contracts.id.IdOrd.TheImpl as id_order
use Rattle.sip_served.specs.Steps.Change.{after_change}
use Rattle.sip_served.specs.Steps.Index.{is_key_of}
use Rattle.sip_served.specs.Steps.Indexed.{at, due_at}
use Rattle.sip_served.specs.Steps.Indices.{keys_at}
use Rattle.sip_served.specs.Steps.Keys.{id_of, prack_of}
use Rattle.sip_served.specs.State.{has_id}
use Rattle.sip_served.specs.Tick.{request_due}
use Rattle.sip_served.proofs.Finds.{changed_of_key, unchanged}
use Rattle.sip_served.proofs.Indexes.{on_ok_mapped}
use Rattle.sip_served.proofs.IndexedSteps.{below_stays, came_changed, came_with, dues_moved, indices_stay, pracks_moved}
use Rattle.sip_served.proofs.KeyTests.{id_same}
use Rattle.sip_served.proofs.by_number.ByNumber.change.Goals as goal

pub returns-in_default-clause-held : goal.returns-in_default-clause-held
returns-in_default-clause-held c =
    let old = c.args.self.now.requests in
    let id = c.args.id in
    sym (unchanged id_order.ghosts.cmp id id_of (has_id id) (id_same id) old.entries
    c.requires.numbered.in_order (after_change c.args.change)
    (λ m. c.in_default.ensures.none (keys_at id_of (at old)) c.requires.numbered.indices.ids m
    (omega arith)))

pub returns-in_default-get_mut-clause-numbered : goal.returns-in_default-get_mut-clause-numbered
returns-in_default-get_mut-clause-numbered c =
    let old = c.args.self.now.requests in
    let id = c.args.id in
    let none = sym c.get_mut.ensures.value ∙ ap option_copied_mut c.in_default-get_mut.is in
    absurd (false≢true (sym (ap (λ o. is_key_of id_order.ghosts.cmp id (option_and_then id_of o)) none)
    ∙ (c.in-Some.ensures.number (keys_at id_of (at old)) c.requires.numbered.indices.ids).0))

pub returns-in_default-get_mut-clause-below : goal.returns-in_default-get_mut-clause-below
returns-in_default-get_mut-clause-below c =
    let old = c.args.self.now.requests in
    let id = c.args.id in
    let none = sym c.get_mut.ensures.value ∙ ap option_copied_mut c.in_default-get_mut.is in
    absurd (false≢true (sym (ap (λ o. is_key_of id_order.ghosts.cmp id (option_and_then id_of o)) none)
    ∙ (c.in-Some.ensures.number (keys_at id_of (at old)) c.requires.numbered.indices.ids).0))

pub returns-in_default-get_mut-clause-held : goal.returns-in_default-get_mut-clause-held
returns-in_default-get_mut-clause-held c =
    let old = c.args.self.now.requests in
    let id = c.args.id in
    let none = sym c.get_mut.ensures.value ∙ ap option_copied_mut c.in_default-get_mut.is in
    absurd (false≢true (sym (ap (λ o. is_key_of id_order.ghosts.cmp id (option_and_then id_of o)) none)
    ∙ (c.in-Some.ensures.number (keys_at id_of (at old)) c.requires.numbered.indices.ids).0))

pub returns-clause-numbered : goal.returns-clause-numbered
returns-clause-numbered c =
    let old = c.args.self.now.requests in
    let n = c.in-Some.number in
    let x = c.in-Some-get_mut.held.now in
    let w = c.apply.new.held in
    let new = c.get_mut.follows.lender w in
    let told = c.get_mut.follows.holds w in
    let there : at old n ≡ Some x =
    sym c.get_mut.ensures.value ∙ ap option_copied_mut c.in-Some-get_mut.is in
    let came : came_with w ≡ came_with x =
    ap came_with c.in_ok-apply.ensures ∙ came_changed c.args.change x in
    let updates = (told.3 (ap is_some there)).0 in
    on_ok_mapped _ _ c.rekey.result
    (λ moved. record {
      in_order = told.4;
      indices = indices_stay old new n x w there came updates c.args.self.now.indices
          c.rekey.new.self c.requires.numbered.indices
          (pracks_moved old new n (Some w) updates c.rekey.new.self c.prack_of.result
          c.prack_of.ensures
          (moved (keys_at prack_of (at old)) c.requires.numbered.indices.pracks
          (ap (option_and_then prack_of) there ∙ sym c.prack_of-former_key.ensures)));
      dues = dues_moved old new n (Some w) updates c.move_due.new.dues c.request_due.result
          c.request_due.ensures
          (c.in_ok-move_due.ensures (due_at old) c.requires.numbered.dues
          (ap (option_and_then request_due) there ∙ sym c.request_due-former_due.ensures));
    })
    c.rekey.ensures

pub returns-clause-below : goal.returns-clause-below
returns-clause-below c =
    let old = c.args.self.now.requests in
    let n = c.in-Some.number in
    let x = c.in-Some-get_mut.held.now in
    let w = c.apply.new.held in
    let new = c.get_mut.follows.lender w in
    let told = c.get_mut.follows.holds w in
    let there : at old n ≡ Some x =
    sym c.get_mut.ensures.value ∙ ap option_copied_mut c.in-Some-get_mut.is in
    let came : came_with w ≡ came_with x =
    ap came_with c.in_ok-apply.ensures ∙ came_changed c.args.change x in
    let updates = (told.3 (ap is_some there)).0 in
    on_ok_mapped _ _ c.rekey.result
    (λ moved. below_stays old new n x w there came updates)
    c.rekey.ensures

pub returns-clause-held : goal.returns-clause-held
returns-clause-held c =
    let old = c.args.self.now.requests in
    let n = c.in-Some.number in
    let x = c.in-Some-get_mut.held.now in
    let w = c.apply.new.held in
    let new = c.get_mut.follows.lender w in
    let told = c.get_mut.follows.holds w in
    let there : at old n ≡ Some x =
    sym c.get_mut.ensures.value ∙ ap option_copied_mut c.in-Some-get_mut.is in
    let id = c.args.id in
    let keys = keys_at id_of (at old) in
    let ids = c.requires.numbered.indices.ids in
    on_ok_mapped _ _ c.rekey.result
    (λ moved. ap values_of told.0
    ∙ changed_of_key id_order.ghosts.cmp id id_of (has_id id) (id_same id) old.entries
    c.requires.numbered.in_order (after_change c.args.change) n (c.in-Some.ensures.number keys ids).0
    (λ m has. c.in-Some.ensures.none_before keys ids m has (omega arith)) x w there
    c.in_ok-apply.ensures)
    c.rekey.ensures
