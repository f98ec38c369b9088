-- What a job may be: the rules on numbers, endings and counts of files.
use Rattle.std.specs.Prelude.{ℕ, ◌≤◌, Bool, false, not, ◌&&◌, nat_eq, nat_le, List, [], ◌∷◌, length, map, Option, None, Some, IfSome, IsTrue, codes, string_bytes}
use Rattle.std.specs.List.{list_all, ends_with}
use Rattle.hb_words.specs.declared.job.Job.{Job}
use Rattle.hb_words.specs.declared.job.Job.TheVariants.{Compile, Save, Core, Refactor, Sample, Show, Certify, Verify}

-- endings
abbrev pub is_library : List ℕ → Bool
is_library name = ends_with nat_eq name (codes ".hbl")

abbrev pub is_certificate : List ℕ → Bool
is_certificate name = ends_with nat_eq name (codes ".hbcert")

-- at most `most` sources
abbrev pub are_sources : ℕ → List (List ℕ) → Bool
are_sources most names = nat_le (length names) most && list_all (λ name. not (is_library name)) names

-- at least one file and at most 64, of which the first alone may be a library
abbrev pub are_files : List (List ℕ) → Bool
are_files [] = false
are_files (f ∷ fs) = are_sources 63 fs

-- a number of steps, where it is there
abbrev pub IsSteps : Option ℕ → Type 0
IsSteps steps = IfSome steps (λ n. (1 ≤ n) × (n ≤ 4294967295))

-- the values of each row
abbrev pub IsAllowed : Job → Type 0
IsAllowed (Compile steps rocq listing files) = IsSteps steps × IsTrue (are_files (map string_bytes files.items))
IsAllowed (Save steps lib files) = IsSteps steps × IsTrue (is_library (string_bytes lib)) × IsTrue (are_files (map string_bytes files.items))
IsAllowed (Core steps file) = IsSteps steps × IsTrue (not (is_library (string_bytes file)))
IsAllowed (Refactor steps old new clients) = IsSteps steps × IsTrue (are_sources 62 (map string_bytes clients.items))
IsAllowed (Sample number size) = (2 ≤ size) × (size ≤ 200)
IsAllowed (Show file) = IsTrue (not (is_library (string_bytes file)))
IsAllowed (Certify steps cert files) = IsSteps steps × IsTrue (is_certificate (string_bytes cert)) × IsTrue (are_files (map string_bytes files.items))
IsAllowed (Verify cert) = IsTrue (is_certificate (string_bytes cert))

-- the first word of a job's row
abbrev pub word_of : Job → List ℕ
word_of (Compile steps rocq listing files) = codes "compile"
word_of (Save steps lib files) = codes "save"
word_of (Core steps file) = codes "core"
word_of (Refactor steps old new clients) = codes "refactor"
word_of (Sample number size) = codes "sample"
word_of (Show file) = codes "show"
word_of (Certify steps cert files) = codes "certify"
word_of (Verify cert) = codes "verify"

-- the first of the words
abbrev pub first_word : List (List ℕ) → Option (List ℕ)
first_word [] = None
first_word (word ∷ words) = Some word
