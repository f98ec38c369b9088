-- Which files stay as they were.
use Rattle.std.specs.Prelude.{◌≡◌, ◌≢◌, ℕ, false, List}
use Rattle.hb_io.specs.Told.{Told}
use Rattle.hb_words.specs.Jobs.{is_library, is_certificate}

-- no file but that of the name has other bytes
abbrev pub OthersStay : List ℕ → (before after : List ℕ → Told) → Type 0
OthersStay name before after = (n : List ℕ) → n ≢ name → after n ≡ before n

-- no file has other bytes but a library or a certificate, by its ending
abbrev pub SourcesStay : (before after : List ℕ → Told) → Type 0
SourcesStay before after = (n : List ℕ) → is_library n ≡ false → is_certificate n ≡ false → after n ≡ before n
