-- What each fault tells: its number, its place and its layer.
use Rattle.book.specs.Faults.{block_told, short_told}
use Rattle.book.specs.Refusals.{refusal}
use Rattle.book.specs.declared.refusal.Layer.TheVariants.{File, Slip}
use Rattle.book.specs.declared.refusal.Refusal.{Refusal}
use Rattle.slip.specs.declared.fault.SlipFault.{SlipFault}
use Rattle.slip.specs.declared.fault.SlipFault.TheVariants.{Length, OfBlock, OutOfTurn, Unexpected, OutOfRange, Unreadable}
use Rattle.slip.specs.declared.fault.SlipWriteFault.{SlipWriteFault}
use Rattle.slip.specs.declared.fault.SlipWriteFault.TheVariants.{OutOfRange as NotWritten, OfOutput}

abbrev pub slip_told : SlipFault → Refusal
slip_told (Length n) = refusal 1 n File
slip_told (OfBlock f) = block_told f
slip_told OutOfTurn = refusal 5 0 Slip
slip_told Unexpected = refusal 6 0 Slip
slip_told OutOfRange = refusal 11 0 Slip
slip_told (Unreadable n) = refusal 9 n Slip

abbrev pub slip_write_told : SlipWriteFault → Refusal
slip_write_told NotWritten = refusal 11 0 Slip
slip_write_told (OfOutput f) = short_told f
