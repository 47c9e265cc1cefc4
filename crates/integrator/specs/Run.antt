-- What the program as a whole does to an input and an output whose bytes are known (`Some`). Those of standard input and output are not
-- (`None`), and of them it says nothing.
use Rattle.std.specs.Prelude.{◌≡◌, List, ℕ, Option, Result, Ok, Err, IfSome}
use Rattle.std.specs.Io.KnownBytes.{Appends}
use Rattle.running.specs.Report.{text_of}
use Rattle.integrator.specs.declared.JobError.{JobError}
use Rattle.integrator.specs.declared.JobError.TheVariants.{NotRead, NotWritten}

-- The input has the bytes `left`, and the output had `before` and has `after`. It wrote the text that the whole input gives, however long that
-- is; or the input could not be read, and it wrote nothing; or the text could not be written, or not all of it.
abbrev pub Runs : {A : Type 0} → (left before after : Option (List ℕ)) → Result A JobError → Type 0
Runs left before after (Ok x) = IfSome left (λ bytes. Appends before after (text_of bytes))
Runs left before after (Err (NotRead e)) = after ≡ before
Runs left before after (Err (NotWritten e)) = Unit {0}
