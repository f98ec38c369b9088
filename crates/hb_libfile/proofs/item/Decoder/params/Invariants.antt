use Rattle.std.proofs.Common.{◌≡◌, ℕ, ◌++◌, List, [], length, map, drop}
use Rattle.hb_libfile.specs.Format.{terms_bytes}
use Rattle.hb_env.specs.Plain.{trees}
use Rattle.hb_libfile.proofs.item.Decoder.params.Given as goal

abbrev pub invariant-loop-at : goal.invariant-loop-at
invariant-loop-at l =
    (l.self.reader.bytes ≡ l.initial.self.reader.bytes) × (l.self.binders ≡ l.initial.self.binders) × (length l.params.items ≡ l.at) × (drop l.initial.self.reader.place l.initial.self.reader.bytes.now ≡ terms_bytes (trees l.params.items) ++ drop l.self.reader.place l.self.reader.bytes.now)
