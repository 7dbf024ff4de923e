-- The texts of the faults of `settle`.
use Rattle.std.specs.Prelude.{ℕ, List, codes}
use Rattle.sip_desk.specs.declared.settle_fault.SettleFault.{SettleFault}
use Rattle.sip_desk.specs.declared.settle_fault.SettleFault.TheVariants.{WrongLine, NotDrained}

abbrev pub fault_text : SettleFault → List ℕ
fault_text WrongLine = codes "the end of another line"
fault_text NotDrained = codes "events are left on the line"
