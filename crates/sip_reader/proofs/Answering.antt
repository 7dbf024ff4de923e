-- What the result of reading says of the text.
use Rattle.std.proofs.Common.{ℕ, List, Result, Ok, Err, refl, sym, subst}
use Rattle.std.specs.Prelude.{IfOk, IfErr}
use Rattle.sip_message.specs.declared.fault.ReadFault.{ReadFault}
use Rattle.sip_message.specs.declared.fault.ReadFault.TheVariants as fault
use Rattle.sip_message.specs.declared.message.Message.{Message}
use Rattle.sip_reader.specs.Faults.{TellsFault}
use Rattle.sip_reader.specs.ReadMessage.{Gives, Fails, message_at}
use Rattle.sip_reader.specs.Spells.{Spells, Answers}
use Rattle.sip_reader.proofs.FirstFaults.{told}
use Rattle.sip_reader.proofs.Outcomes.{same_Ok}
use Rattle.sip_reader.proofs.Spelled.{spelled_takes, spelled_again}

pub is_found : (text : List ℕ) (r : Result Message ReadFault) → Gives r (message_at text)
    → IfOk r (λ m. Spells m text)
is_found text (Ok m) given = spelled_takes text m given
is_found text (Err e) given = tt

-- a fault in the place of a message is NoMemory
not_failed : (e : ReadFault) (m : Message) → Fails e (Ok m) → Answers (Err e) m
not_failed fault.NoMemory m given = tt
not_failed e m given = absurd cc

answered : (r : Result Message ReadFault) (m : Message) → Gives r (Ok m) → Answers r m
answered (Ok read) m given = sym (same_Ok m read given)
answered (Err e) m given = not_failed e m given

pub is_only : (text : List ℕ) (r : Result Message ReadFault) → Gives r (message_at text)
    → (m : Message) → Spells m text → Answers r m
is_only text r given m spelled =
    answered r m (subst (λ (read : Result Message ReadFault). Gives r read)
    (spelled_again text m spelled) given)

-- a fault, other than NoMemory, is the first
failed : (text : List ℕ) (e : ReadFault) → Fails e (message_at text) → TellsFault e text
failed text fault.NoMemory given = tt
failed text fault.TooLong given = told text fault.TooLong given
failed text fault.NoEmptyLine given = told text fault.NoEmptyLine given
failed text fault.BadStartLine given = told text fault.BadStartLine given
failed text fault.BadHeader given = told text fault.BadHeader given
failed text (fault.Missing header) given = told text (fault.Missing header) given
failed text (fault.Repeated header) given = told text (fault.Repeated header) given
failed text fault.BadNumber given = told text fault.BadNumber given
failed text fault.OldBranch given = told text fault.OldBranch given
failed text fault.MethodMismatch given = told text fault.MethodMismatch given
failed text fault.Truncated given = told text fault.Truncated given

pub is_fault : (text : List ℕ) (r : Result Message ReadFault) → Gives r (message_at text)
    → IfErr r (λ e. TellsFault e text)
is_fault text (Ok m) given = tt
is_fault text (Err e) given = failed text e given

pub gives_itself : {A : Type 0} (r : Result A ReadFault) → Gives r r
gives_itself (Ok m) = refl
gives_itself (Err fault.NoMemory) = tt
gives_itself (Err fault.TooLong) = refl
gives_itself (Err fault.NoEmptyLine) = refl
gives_itself (Err fault.BadStartLine) = refl
gives_itself (Err fault.BadHeader) = refl
gives_itself (Err (fault.Missing header)) = refl
gives_itself (Err (fault.Repeated header)) = refl
gives_itself (Err fault.BadNumber) = refl
gives_itself (Err fault.OldBranch) = refl
gives_itself (Err fault.MethodMismatch) = refl
gives_itself (Err fault.Truncated) = refl
