use Rattle.std.proofs.Common.{rules, ◌≡◌, ◌∙◌, drop, []}
use Rattle.hb_libfile.proofs.ReadLemmas.{library_read}
use Rattle.hb_libfile.proofs.reading.decode.Goals as goal

pub returns-clause-read : goal.returns-clause-read
returns-clause-read c = λ z.
    let start : c.args.bytes.now ≡ drop c.new-decoder.result.reader.place c.new-decoder.result.reader.bytes.now = search rules in
    let last : drop c.entries.new.self.reader.place c.entries.new.self.reader.bytes.now ≡ [] = search rules in
    (c.mark.new.self.binders, library_read c.mark.new.self.binders c.names.new.self.binders c.names.new.names c.in_ok-entries.entries.items _ _ _ _ (start ∙ c.in_ok-mark.ensures.read) (c.in_ok-names.ensures.read z) c.in_ok-entries.ensures.read c.in_ok-names.ensures.version last)
