use Rattle.std.proofs.Common.{◌≡◌, ℕ, ◌++◌, List, [], length, map, drop}
use Rattle.hb_libfile.specs.Format.{fields_bytes}
use Rattle.hb_env.specs.Plain.{plain_fields}
use Rattle.hb_libfile.proofs.item.Decoder.fields.Given as goal

abbrev pub invariant-loop-at : goal.invariant-loop-at
invariant-loop-at l =
    (l.self.reader.bytes ≡ l.initial.self.reader.bytes) × (l.self.binders ≡ l.initial.self.binders) × (length l.fields.items ≡ l.at) × (drop l.initial.self.reader.place l.initial.self.reader.bytes.now ≡ fields_bytes (plain_fields l.fields.items) ++ drop l.self.reader.place l.self.reader.bytes.now)
