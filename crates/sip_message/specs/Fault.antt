-- The faults of reading as text.
use Rattle.std.specs.Prelude.{ℕ, List, ◌++◌, codes}
use Rattle.sip_grammar.specs.HeaderName.{header_name}
use Rattle.sip_message.specs.declared.fault.ReadFault.{ReadFault}
use Rattle.sip_message.specs.declared.fault.ReadFault.TheVariants.{TooLong, NoEmptyLine, BadStartLine, BadHeader, Missing, Repeated, BadNumber, OldBranch, MethodMismatch, Truncated, NoMemory}

abbrev pub fault_name : ReadFault → List ℕ
fault_name TooLong = codes "TooLong"
fault_name NoEmptyLine = codes "NoEmptyLine"
fault_name BadStartLine = codes "BadStartLine"
fault_name BadHeader = codes "BadHeader"
fault_name (Missing header) = codes "Missing"
fault_name (Repeated header) = codes "Repeated"
fault_name BadNumber = codes "BadNumber"
fault_name OldBranch = codes "OldBranch"
fault_name MethodMismatch = codes "MethodMismatch"
fault_name Truncated = codes "Truncated"
fault_name NoMemory = codes "NoMemory"

-- the name, and after two of them a space and the header's name
abbrev pub fault_text : ReadFault → List ℕ
fault_text (Missing header) = codes "Missing " ++ header_name header
fault_text (Repeated header) = codes "Repeated " ++ header_name header
fault_text fault = fault_name fault
