-- What a record has in addition to what it had before.
use Rattle.std.specs.Prelude.{◌≡◌, ℕ, List, Option, Some, None, IsSome}
use Rattle.std.specs.Io.KnownBytes.{Appends}
use Rattle.sip_udp.specs.declared.record.Keeping.TheVariants.{Needed}
use Rattle.sip_udp.specs.declared.record.Record.{Record}

-- if recording goes on, this text is added to the file; a record that was given up stays so
abbrev pub Records : {F : Type 0} → (F → Option (List ℕ)) → Option F → Option F → List ℕ → Type 0
Records contents old None text = Unit {0}
Records contents None (Some file) text = ⊥
Records contents (Some before) (Some file) text = Appends (contents before) (contents file) text

-- a record that is needed isn't given up
abbrev pub KeepsIfNeeded : {F : Type 0} → Record F → Record F → Type 0
KeepsIfNeeded old new = old.keeping ≡ Needed → IsSome old.file → IsSome new.file
