use Rattle.std.proofs.Common.{◌≡◌, ℕ, ◌++◌, List, [], length, map, drop}
use Rattle.hb_libfile.specs.Format.{entries_bytes}
use Rattle.hb_libfile.proofs.item.Decoder.entries.Given as goal

abbrev pub invariant-loop-i : goal.invariant-loop-i
invariant-loop-i l =
    (l.self.reader.bytes ≡ l.initial.self.reader.bytes) × (l.self.binders ≡ l.initial.self.binders) × (length l.entries.items ≡ l._i) × (drop l.initial.self.reader.place l.initial.self.reader.bytes.now ≡ entries_bytes l.initial.self.binders (map (λ p. p.0) l.entries.items) ++ drop l.self.reader.place l.self.reader.bytes.now)
