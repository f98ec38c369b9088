-- The rows of the usage text as commands of `clap`: the word that begins a row stands where `clap` expects the program's
-- name. An option has one value and stands at most once; the last argument may take several values.
use Rattle.std.specs.Prelude.{Bool, Some, true, false, codes}
use Rattle.clap.specs.Lexer.{usize_max}
use Rattle.clap.specs.Simple.{on_top}
use Rattle.clap.specs.Words.{App, Rule, Text, new_app, new_rule, with_rule}
use Rattle.clap.specs.declared.builder.action.ArgAction.TheVariants.{Set, Append}
use Rattle.hb_words.specs.declared.row.Row.{Row}
use Rattle.hb_words.specs.declared.row.Row.TheVariants as rows

abbrev pub option : Text → Rule
option name = record (new_rule name) { long = Some name; action = Some Set }

abbrev pub one : Text → Rule
one name = record (new_rule name) { required = true; action = Some Set }

abbrev pub several : (required : Bool) → Text → Rule
several required name =
    record (new_rule name) { range = Some (record { start_inclusive = 1; end_inclusive = usize_max }); action = Some Append; required = required }

-- a command without help
abbrev pub plain : App
plain = on_top (λ s. record s { disable_help_flag = true }) (new_app (codes "hbc"))

abbrev pub stepped : App
stepped = with_rule plain (option (codes "steps"))

abbrev pub row_app : Row → App
row_app rows.Compile =
    with_rule (with_rule (with_rule stepped (option (codes "rocq"))) (option (codes "listing"))) (several true (codes "FILE"))
row_app rows.Save = with_rule (with_rule stepped (one (codes "LIB"))) (several true (codes "FILE"))
row_app rows.Core = with_rule stepped (one (codes "FILE"))
row_app rows.Refactor = with_rule (with_rule (with_rule stepped (one (codes "OLD"))) (one (codes "NEW"))) (several false (codes "CLIENT"))
row_app rows.Sample = with_rule (with_rule plain (one (codes "NUMBER"))) (one (codes "SIZE"))
row_app rows.Show = with_rule plain (one (codes "FILE"))
row_app rows.Certify = with_rule (with_rule stepped (one (codes "CERT"))) (several true (codes "FILE"))
row_app rows.Verify = with_rule plain (one (codes "CERT"))
