use Rattle.std.proofs.Common.{◌≡◌, ℕ, ◌++◌, List, [], length, map, drop}
use Rattle.hb_libfile.specs.Format.{optionals_bytes}
use Rattle.hb_libfile.proofs.item.Decoder.binders.Given as goal

abbrev pub invariant-loop-i : goal.invariant-loop-i
invariant-loop-i l =
    (l.self.reader.bytes ≡ l.initial.self.reader.bytes) × (l.self.binders ≡ l.initial.self.binders) × (length l.binders.items ≡ l._i) × (drop l.initial.self.reader.place l.initial.self.reader.bytes.now ≡ optionals_bytes l.binders.items ++ drop l.self.reader.place l.self.reader.bytes.now)
