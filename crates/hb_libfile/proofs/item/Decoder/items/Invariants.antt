use Rattle.std.proofs.Common.{◌≡◌, ℕ, ◌++◌, List, [], length, map, drop}
use Rattle.hb_libfile.specs.Format.{names_bytes}
use Rattle.hb_libfile.proofs.item.Decoder.items.Given as goal

abbrev pub invariant-loop-i : goal.invariant-loop-i
invariant-loop-i l =
    (l.self.reader.bytes ≡ l.initial.self.reader.bytes) × (l.self.binders ≡ l.initial.self.binders) × (length l.items.items ≡ l._i) × (drop l.initial.self.reader.place l.initial.self.reader.bytes.now ≡ names_bytes l.items.items ++ drop l.self.reader.place l.self.reader.bytes.now)
