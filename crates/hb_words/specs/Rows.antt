-- The first words of the rows of the usage text.
use Rattle.std.specs.Prelude.{ℕ, List, codes}
use Rattle.hb_words.specs.declared.row.Row.{Row}
use Rattle.hb_words.specs.declared.row.Row.TheVariants.{Compile, Save, Core, Refactor, Sample, Show, Certify, Verify}

abbrev pub row_word : Row → List ℕ
row_word Compile = codes "compile"
row_word Save = codes "save"
row_word Core = codes "core"
row_word Refactor = codes "refactor"
row_word Sample = codes "sample"
row_word Show = codes "show"
row_word Certify = codes "certify"
row_word Verify = codes "verify"
