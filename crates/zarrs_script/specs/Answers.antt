-- What a run of a script writes, and its status.
use Rattle.std.specs.Prelude.{◌≡◌, ◌⊎◌, ℕ, if◌then◌else◌, List, ◌++◌, Option, None, Ok, Err, codes, decimal}
use Rattle.std.specs.Io.KnownBytes.{Appends, Consumes, IsAtEnd}
use Rattle.zarrs_script.specs.Script.{Order, orders_of}
use Rattle.zarrs_script.specs.Transcript.{Outcome, Transcript, line}

-- such bytes were all that a reader had left
abbrev pub ReadsAll : Option (List ℕ) → Option (List ℕ) → (List ℕ → Type 0) → Type 0
ReadsAll old new IsSuch = (bytes : List ℕ) × Consumes old new bytes × IsAtEnd new × IsSuch bytes

-- what a writer holds grew by such a text
abbrev pub WritesText : Option (List ℕ) → Option (List ℕ) → (List ℕ → Type 0) → Type 0
WritesText old new IsSuch = (text : List ℕ) × Appends old new text × IsSuch text

-- a transcript of the script, and its status: 1 if it holds a refusal, else 0
abbrev pub IsTranscriptOf : List ℕ → List ℕ → ℕ → Type 0
IsTranscriptOf script text status =
    (orders : List Order) × (orders_of script ≡ Ok orders) × (outcome : Outcome) × Transcript None orders outcome
    × (text ≡ outcome.text) × (status ≡ (if outcome.refused then 1 else 0))

-- the message for the first line of the script that is not a command, and status 2
abbrev pub IsComplaintOf : List ℕ → List ℕ → ℕ → Type 0
IsComplaintOf script text status =
    (n : ℕ) × (orders_of script ≡ Err n) × (text ≡ line (codes "line " ++ decimal n ++ codes ": not a command")) × (status ≡ 2)

-- what a run of a script writes: its transcript, or the complaint
abbrev pub IsAnswer : List ℕ → List ℕ → ℕ → Type 0
IsAnswer script text status = IsTranscriptOf script text status ⊎ IsComplaintOf script text status
