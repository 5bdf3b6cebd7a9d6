-- Why a text cannot be read on. Assumes nothing.
use Rattle.std.specs.Prelude.{ℕ}
use Rattle.lexer.specs.declared.fault.LexFault.{LexFault}
use Rattle.lexer.specs.declared.fault.LexFault.TheVariants.{LongRow, Stranger}
use Rattle.lexer.specs.Lexemes.{Seen}
use Rattle.lexer.specs.Lexemes.Seen.{long_row, stranger}

-- Both faults have one number.
abbrev pub fault_number : LexFault → ℕ
fault_number (LongRow o) = 2
fault_number (Stranger o) = 2

-- Where the fault stands.
abbrev pub fault_offset : LexFault → ℕ
fault_offset (LongRow o) = o
fault_offset (Stranger o) = o

-- What was met there.
abbrev pub fault_seen : LexFault → Seen
fault_seen (LongRow o) = long_row
fault_seen (Stranger o) = stranger
