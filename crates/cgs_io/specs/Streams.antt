-- What reading all of a source and writing a whole text do.
use Rattle.std.specs.Prelude.{◌≡◌, ◌≤◌, ◌+◌, ℕ, List, length, take, Option, Result, Ok, Err}
use Rattle.std.specs.Io.KnownBytes.{Consumes, IsAtEnd, Appends}
use Rattle.cgs_io.specs.Causes.{Rose}
use Rattle.cgs_io.specs.declared.all.Reading.{Reading}
use Rattle.cgs_io.specs.declared.all.Reading.TheVariants as reading
use Rattle.cgs_io.specs.declared.all.ReadFault.{ReadFault}
use Rattle.cgs_io.specs.declared.all.ReadFault.TheVariants as fault

-- Whole: these bytes and no others were left. TooLong: one byte more than the limit was read. After an error what was
-- read, at most as much, is gone from the source.
abbrev pub IsReading : ℕ → Option (List ℕ) → Option (List ℕ) → Result Reading ReadFault → Type 0
IsReading limit before now (Ok (reading.Whole bytes)) = (length bytes.items ≤ limit) × Consumes before now bytes.items × IsAtEnd now
IsReading limit before now (Ok reading.TooLong) = (read : List ℕ) × (length read ≡ limit + 1) × Consumes before now read
IsReading limit before now (Err e) = (read : List ℕ) × (length read ≤ limit + 1) × Consumes before now read

-- Fault comes only where the count of the source rose. With every other answer the count is as it was, so a failed read
-- is never taken for the end of input or for want of memory.
abbrev pub ReadCause : ℕ → ℕ → Result Reading ReadFault → Type 0
ReadCause before now (Ok r) = now ≡ before
ReadCause before now (Err fault.Fault) = (before ≤ now) × Rose before now
ReadCause before now (Err fault.OutOfMemory) = now ≡ before

-- a prefix of the text was appended
abbrev pub AppendsPrefix : Option (List ℕ) → Option (List ℕ) → List ℕ → Type 0
AppendsPrefix before now text = (n : ℕ) × Appends before now (take n text)
