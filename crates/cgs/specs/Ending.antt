-- How the program ends where it has no words, and after its flush.
use Rattle.std.specs.Prelude.{◌≡◌, ◌⊎◌, ℕ}
use Rattle.std.specs.declared.io.ErrorKind.{ErrorKind}
use Rattle.std.specs.declared.io.ErrorKind.TheVariants.{OutOfMemory}
use Rattle.cgs_io.specs.Causes.{Rose}
use Rattle.cgs_program.specs.declared.status.Status.{Status}
use Rattle.cgs_program.specs.declared.status.Status.TheVariants as status
use Rattle.cgs_program.specs.Due.{code_of}

-- the exit code where the runtime refuses the words: that of want of memory, or 8, which no status has
abbrev pub code_without_words : ErrorKind → ℕ
code_without_words OutOfMemory = code_of status.Memory
code_without_words kind = 8

-- After a status with which a text was written the flush left the sink's count of faults and the status stays, or the count rose and the status is 6.
-- The others stay, and nothing is flushed.
abbrev pub IsFlushed : ℕ → ℕ → Status → Status → Type 0
IsFlushed before now status.Source ending = (now ≡ before) × (ending ≡ status.Source)
IsFlushed before now status.Sink ending = (now ≡ before) × (ending ≡ status.Sink)
IsFlushed before now status.Memory ending = (now ≡ before) × (ending ≡ status.Memory)
IsFlushed before now told ending = ((now ≡ before) × (ending ≡ told)) ⊎ (Rose before now × (ending ≡ status.Sink))
