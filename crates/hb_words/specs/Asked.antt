-- What words ask for, as `clap` reads them by the command of their row.
use Rattle.std.specs.Prelude.{◌≡◌, ℕ, List, [], map, Option, None, Some, unwrap_or, codes, string_bytes}
use Rattle.std.specs.Option.{option_map}
use Rattle.clap.specs.Words.{all_of, first_of, fault_of, matches_of, Row as Values, Text}
use Rattle.hb_words.specs.Commands.{row_app}
use Rattle.hb_words.specs.Jobs.{first_word, IsAllowed}
use Rattle.hb_words.specs.Numbers.{IsNumber}
use Rattle.hb_words.specs.Rows.{row_word}
use Rattle.hb_words.specs.declared.job.Job.{Job}
use Rattle.hb_words.specs.declared.job.Job.TheVariants as jobs
use Rattle.hb_words.specs.declared.row.Row.{Row}
use Rattle.hb_words.specs.declared.row.Row.TheVariants as rows

-- the one value of an argument, and all values of the last one
abbrev pub one_value : Text → List Values → List ℕ → Type 0
one_value id vs text = first_of id vs ≡ Some text

abbrev pub all_values : Text → List Values → List (List ℕ)
all_values id vs = unwrap_or (all_of id vs) []

-- a number that an option's text writes, where the option is there
abbrev pub IsNumberOf : Option Text → Option ℕ → Type 0
IsNumberOf None n = n ≡ None
IsNumberOf (Some text) None = ⊥
IsNumberOf (Some text) (Some n) = IsNumber text n

-- the job of a row has these values
abbrev pub HasValues : Row → List Values → Job → Type 0
HasValues rows.Compile vs (jobs.Compile steps rocq listing files) =
    IsNumberOf (first_of (codes "steps") vs) steps × (option_map string_bytes rocq ≡ first_of (codes "rocq") vs)
    × (option_map string_bytes listing ≡ first_of (codes "listing") vs) × (map string_bytes files.items ≡ all_values (codes "FILE") vs)
HasValues rows.Save vs (jobs.Save steps lib files) =
    IsNumberOf (first_of (codes "steps") vs) steps × one_value (codes "LIB") vs (string_bytes lib)
    × (map string_bytes files.items ≡ all_values (codes "FILE") vs)
HasValues rows.Core vs (jobs.Core steps file) = IsNumberOf (first_of (codes "steps") vs) steps × one_value (codes "FILE") vs (string_bytes file)
HasValues rows.Refactor vs (jobs.Refactor steps old new clients) =
    IsNumberOf (first_of (codes "steps") vs) steps × one_value (codes "OLD") vs (string_bytes old)
    × one_value (codes "NEW") vs (string_bytes new) × (map string_bytes clients.items ≡ all_values (codes "CLIENT") vs)
HasValues rows.Sample vs (jobs.Sample number size) =
    IsNumberOf (first_of (codes "NUMBER") vs) (Some number) × IsNumberOf (first_of (codes "SIZE") vs) (Some size)
HasValues rows.Show vs (jobs.Show file) = one_value (codes "FILE") vs (string_bytes file)
HasValues rows.Certify vs (jobs.Certify steps cert files) =
    IsNumberOf (first_of (codes "steps") vs) steps × one_value (codes "CERT") vs (string_bytes cert)
    × (map string_bytes files.items ≡ all_values (codes "FILE") vs)
HasValues rows.Verify vs (jobs.Verify cert) = one_value (codes "CERT") vs (string_bytes cert)
HasValues row vs job = ⊥

-- the words ask for the job: their first word begins its row, whose command takes them and finds its values, and the
-- values keep the rules
pub record AsksFor (words : List (List ℕ)) (job : Job) : Type 0 where
  pub row : Row
  pub first : first_word words ≡ Some (row_word row)
  pub fits : fault_of (row_app row) words ≡ []
  pub values : HasValues row (matches_of (row_app row) words) job
  pub allowed : IsAllowed job
