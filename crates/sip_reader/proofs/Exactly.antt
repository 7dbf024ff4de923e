-- The clauses of `read` say that its result is what reading from left to right gives.
use Rattle.std.proofs.Common.{◌≡◌, inl, inr, ℕ, List, [], ◌∷◌, Result, Ok, Err, refl, sym, ap, subst, ◌∙◌}
use Rattle.std.specs.Prelude.{IfOk, IfErr}
use Rattle.sip_message.specs.declared.fault.ReadFault.{ReadFault}
use Rattle.sip_message.specs.declared.fault.ReadFault.TheVariants as fault
use Rattle.sip_message.specs.declared.message.Message.{Message}
use Rattle.sip_headers.specs.Faults.{IsFirst, Decides}
use Rattle.sip_reader.specs.Faults.{Condition, TellsFault, faults}
use Rattle.sip_reader.specs.ReadMessage.{Gives, message_at}
use Rattle.sip_reader.specs.Spells.{Spells}
use Rattle.sip_reader.proofs.Answering.{gives_itself}
use Rattle.sip_reader.proofs.FirstFaults.{first_fault, none_first}
use Rattle.sip_reader.proofs.Spelled.{spelled_again}

-- only one fault is the first
one_first : (C : ReadFault → Type 0) (es : List ReadFault) (e f : ReadFault) → IsFirst C es e
    → IsFirst C es f → e ≡ f
one_first C [] e f is also = absurd is
one_first C (x ∷ xs) e f (inl here) (inl there) = here.0 ∙ sym there.0
one_first C (x ∷ xs) e f (inl here) (inr more) = absurd (more.0 here.1)
one_first C (x ∷ xs) e f (inr more) (inl here) = absurd (more.0 here.1)
one_first C (x ∷ xs) e f (inr more) (inr also) = one_first C xs e f more.1 also.1

first_given : (text : List ℕ) (e : ReadFault) → IsFirst (Condition text) faults e
    → Gives (Err e) (message_at text)
first_given text e first = by_read (message_at text) refl (first_fault text)
  where
    by_read : (r : Result Message ReadFault) → message_at text ≡ r
        → Decides (Condition text) faults r → Gives (Err e) (message_at text)
    by_read (Ok m) is none = absurd (none_first (Condition text) faults e none first)
    by_read (Err f) is also =
        subst (λ (r : Result Message ReadFault). Gives (Err e) r)
        (sym (is ∙ ap Err (one_first (Condition text) faults f e also first)))
        (gives_itself (Err e))

told_given : (text : List ℕ) (e : ReadFault) → TellsFault e text → Gives (Err e) (message_at text)
told_given text fault.NoMemory told = tt
told_given text fault.TooLong told = first_given text fault.TooLong told
told_given text fault.NoEmptyLine told = first_given text fault.NoEmptyLine told
told_given text fault.BadStartLine told = first_given text fault.BadStartLine told
told_given text fault.BadHeader told = first_given text fault.BadHeader told
told_given text (fault.Missing header) told = first_given text (fault.Missing header) told
told_given text (fault.Repeated header) told = first_given text (fault.Repeated header) told
told_given text fault.BadNumber told = first_given text fault.BadNumber told
told_given text fault.OldBranch told = first_given text fault.OldBranch told
told_given text fault.MethodMismatch told = first_given text fault.MethodMismatch told
told_given text fault.Truncated told = first_given text fault.Truncated told

pub exactly : (text : List ℕ) (r : Result Message ReadFault) → IfOk r (λ m. Spells m text)
    → IfErr r (λ e. TellsFault e text) → Gives r (message_at text)
exactly text (Ok m) spelled told = spelled_again text m spelled
exactly text (Err e) spelled told = told_given text e told
