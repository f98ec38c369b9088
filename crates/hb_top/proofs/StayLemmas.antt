-- Files that stay.
use Rattle.std.proofs.Common.{◌≤◌, ℕ, List, [], true≢false, IsTrue, sym, ap, ◌∙◌}
use Rattle.hb_io.specs.Told.{Told}
use Rattle.hb_words.specs.Jobs.{is_library, is_certificate}
use Rattle.hb_top.specs.Stops.{FilesStay}
use Rattle.hb_top.specs.Stays.{OthersStay, SourcesStay}

-- a library isn't a source
pub lib_stays : (name : List ℕ) (before after : List ℕ → Told) → IsTrue (is_library name) → OthersStay name before after → SourcesStay before after
lib_stays name before after lib others =
    λ n no_lib no_cert. others n (λ same. true≢false (sym lib ∙ ap is_library (sym same) ∙ no_lib))

-- nor is a certificate
pub cert_stays : (name : List ℕ) (before after : List ℕ → Told) → IsTrue (is_certificate name) → OthersStay name before after → SourcesStay before after
cert_stays name before after cert others =
    λ n no_lib no_cert. others n (λ same. true≢false (sym cert ∙ ap is_certificate (sym same) ∙ no_cert))

-- where all files stay, sources do
pub all_stay : (before after : List ℕ → Told) → FilesStay before after → SourcesStay before after
all_stay before after stay = λ n no_lib no_cert. stay n

-- and all files but one
pub none_changes : (before after : List ℕ → Told) → FilesStay before after → (name : List ℕ) × OthersStay name before after
none_changes before after stay = ([], λ n other. stay n)

-- counts didn't fall, and all files stay
pub record Later (depot depot' sink sink' : ℕ) (before after : List ℕ → Told) : Type 0 where
  pub depot_later : depot ≤ depot'
  pub sink_later : sink ≤ sink'
  pub files : FilesStay before after
