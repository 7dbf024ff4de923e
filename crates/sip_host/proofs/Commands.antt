-- What a host answers to a command, and what it then has.
use Rattle.std.proofs.Common.{◌≡◌, ◌<◌, ◌+◌, ℕ, [], ◌∷◌, Option, None, Some, inr, refl, sym, ap, ◌∙◌, subst, arith, length}
use Rattle.std.proofs.lemmas.Bool.Decides.{nat_tests}
use Rattle.std.specs.Result.{IsErrAnd}
use Rattle.std.specs.Prelude.{IfSome, IsSomeAnd, Result, Ok, Err, nat_lt, if◌then◌else◌}
use Rattle.sip_files.specs.Given.{with_given}
use Rattle.sip_message.specs.declared.id.Id.{Id}
use Rattle.sip_round.specs.declared.round.Event.TheVariants.{Command}
use Rattle.sip_user.specs.declared.command.UserCommand.{UserCommand}
use Rattle.sip_host.specs.Asking.{Makes, TakesCommand, first_bad, rules_of, without_headers}
use Rattle.sip_host.specs.Hosting.{with_events}
use Rattle.sip_host.specs.declared.field.Field.{Field}
use Rattle.sip_host.specs.declared.host.Host.{Host}
use Rattle.sip_host.specs.declared.host_fault.HostFault.{HostFault}
use Rattle.sip_host.specs.declared.host_fault.HostFault.TheVariants as fault

same_fault : {A B : Type 0} (why other : HostFault)
    → ◌≡◌ {A = Result A HostFault} (Err why) (Err other)
    → ◌≡◌ {A = Result B HostFault} (Err why) (Err other)
same_fault why other same = ap Err cc

same_bad : (A B : Type 0) (why : HostFault) (bad : Option Field)
    → IfSome bad (λ name. ◌≡◌ {A = Result A HostFault} (Err why) (Err (fault.BadField name)))
    → IfSome bad (λ name. ◌≡◌ {A = Result B HostFault} (Err why) (Err (fault.BadField name)))
same_bad A B why None same = tt
same_bad A B why (Some name) same = same_fault {A = A} {B = B} why (fault.BadField name) same

pub none_bad : (made : UserCommand) (bad : Option Field)
    → IfSome bad (λ name.
    ◌≡◌ {A = Result UserCommand HostFault} (Ok made) (Err (fault.BadField name)))
    → bad ≡ None
none_bad made None same = refl
none_bad made (Some name) same = absurd cc

pub err_is : {A : Type 0} (answer : Result A HostFault) (why : HostFault)
    → IsErrAnd answer (λ e. e ≡ why) → answer ≡ Err why
err_is (Ok value) why is = absurd is
err_is (Err e) why is = ap Err is

-- fields that are bad, or no memory for them
pub not_made : (wanted : UserCommand) (old new : Host) (why : HostFault)
    → length old.events < 65536 → new ≡ without_headers old
    → Makes wanted (Err why) → TakesCommand wanted old new (Err why)
not_made wanted old new why room left makes = record {
  added = tt;
  id = tt;
  let_go = left;
  full = λ full. absurd (omega arith);
  bad_field = λ _. same_bad UserCommand Id why (first_bad (rules_of wanted)) makes.bad;
  bad_headers = λ _ none _.
      inr (same_fault {A = UserCommand} {B = Id} why fault.NoMemory (makes.fault none));
  fault = λ _ none _. same_fault {A = UserCommand} {B = Id} why fault.NoMemory (makes.fault none);
}

-- no memory for the event
pub not_added : (wanted made : UserCommand) (old new : Host)
    → length old.events < 65536 → new ≡ without_headers old
    → Makes wanted (Ok made) → TakesCommand wanted old new (Err fault.NoMemory)
not_added wanted made old new room left makes = record {
  added = tt;
  id = tt;
  let_go = left;
  full = λ full. absurd (omega arith);
  bad_field = λ _. subst (λ bad. IfSome bad
      (λ name. ◌≡◌ {A = Result Id HostFault} (Err fault.NoMemory) (Err (fault.BadField name))))
      (sym (none_bad made (first_bad (rules_of wanted)) makes.bad)) tt;
  bad_headers = λ _ _ _. inr refl;
  fault = λ _ _ _. refl;
}

-- the command is added, and has an id
pub is_added : (wanted made whole : UserCommand) (old new : Host) (id : Id)
    → length old.events < 65536 → Makes wanted (Ok made)
    → with_given old.headers made ≡ Some whole
    → new ≡ with_events (without_headers old) (Command whole ∷ [])
    → id ≡ record { round = old.agent.next_round; place = length old.events + 1 }
    → TakesCommand wanted old new (Ok id)
is_added wanted made whole old new id room makes given is its_id =
    let here : with_given old.headers wanted ≡ Some whole =
    ap (with_given old.headers) (sym makes.made) ∙ given in
    record {
      added = subst (λ found. IsSomeAnd found
          (λ w. new ≡ with_events (without_headers old) (Command w ∷ []))) (sym here) is;
      id = its_id;
      let_go = tt;
      full = λ full. absurd (omega arith);
      bad_field = λ _. subst (λ bad. IfSome bad
          (λ name. ◌≡◌ {A = Result Id HostFault} (Ok id) (Err (fault.BadField name))))
          (sym (none_bad made (first_bad (rules_of wanted)) makes.bad)) tt;
      bad_headers = λ _ _ none. absurd cc;
      fault = λ _ _ _. tt;
    }

-- a round that has room
pub room_of : (n : ℕ) (unit : Unit {0})
    → ◌≡◌ {A = Result (Unit {0}) HostFault}
    (if nat_lt n 65536 then Ok tt else Err fault.TooManyEvents) (Ok unit) → n < 65536
room_of n unit ok = grind (arith, nat_tests)
