-- The faults of both programs, and how they end with each.
use Rattle.std.specs.Prelude.{◌≡◌, ℕ, ◌≢◌, ◌⊎◌}
use Rattle.sch_reader.specs.declared.fault.SchFault.{SchFault}
use Rattle.sch_reader.specs.declared.fault.SchFault.TheVariants as texts
use Rattle.schedule_check.specs.declared.fault.StartsFault.{StartsFault}
use Rattle.schedule_check.specs.declared.fault.StartsFault.TheVariants as starts
use Rattle.record_text.specs.declared.fault.RecordFault.{RecordFault}
use Rattle.record_text.specs.declared.fault.RecordFaultKind.{RecordFaultKind}
use Rattle.record_text.specs.declared.fault.RecordFaultKind.TheVariants as why
use Rattle.record_text.specs.declared.event_fault.EventFault.{EventFault}
use Rattle.record_text.specs.declared.event_fault.Wrong.{Wrong}
use Rattle.record_text.specs.declared.event_fault.Wrong.TheVariants as wrong
use Rattle.devices.specs.declared.fault.Fault.{Fault}
use Rattle.devices.specs.declared.fault.Fault.TheVariants as faults

-- the fault of a project text
abbrev pub fault_of : SchFault → Fault
fault_of texts.Memory = faults.Memory
fault_of cause = faults.Project cause

-- the fault of a text of starts
abbrev pub starts_fault_of : StartsFault → Fault
starts_fault_of starts.Memory = faults.Memory
starts_fault_of cause = faults.Starts cause

-- a fault of this kind of a record of a tree
abbrev pub kind_fault : RecordFault → RecordFaultKind → Fault
kind_fault fault why.Memory = faults.Memory
kind_fault fault why.TooLong = faults.TooLong
kind_fault fault kind = faults.Record fault

-- the fault of a record of a tree: of its text, or of what it says
abbrev pub record_fault_of : RecordFault → Fault
record_fault_of fault = kind_fault fault fault.kind

-- what is wrong with an event of a record of lemmas
abbrev pub wrong_fault : EventFault → Wrong → Fault
wrong_fault fault wrong.Memory = faults.Memory
wrong_fault fault kind = faults.Event fault

-- the fault of a record of lemmas
abbrev pub event_fault_of : EventFault → Fault
event_fault_of fault = wrong_fault fault fault.wrong

-- the exit status where a record of a tree has a fault of this kind: 2 for its text, and else 4
abbrev pub record_exit : RecordFaultKind → ℕ
record_exit why.Form = 2
record_exit why.Short = 2
record_exit why.Trailing = 2
record_exit kind = 4

-- the exit status: 1 for memory, threads and devices, 2 for a text that isn't what it should be, 4 for a
-- record that isn't right
abbrev pub exit_of : Fault → ℕ
exit_of faults.TooLong = 2
exit_of (faults.Project cause) = 2
exit_of (faults.Starts cause) = 2
exit_of (faults.Record cause) = record_exit cause.kind
exit_of (faults.Event cause) = 4
exit_of fault = 1

-- it is not that a device failed
abbrev pub IsNoDeviceFault : Fault → Type 0
IsNoDeviceFault fault = (fault ≢ faults.ReadFailed) × (fault ≢ faults.WriteFailed)

-- it is one that workers may end with, and nobody else
abbrev pub IsSearchFault : Fault → Type 0
IsSearchFault fault = (fault ≡ faults.Thread) ⊎ ((fault ≡ faults.OtherProject) ⊎ (fault ≡ faults.Refused))

-- it is of a text, or want of memory
abbrev pub IsTextFault : Fault → Type 0
IsTextFault fault = IsNoDeviceFault fault × (¬ IsSearchFault fault)

-- it is of an input: of its device or of its text, or want of memory
abbrev pub IsInputFault : Fault → Type 0
IsInputFault fault = (fault ≢ faults.WriteFailed) × (¬ IsSearchFault fault)
