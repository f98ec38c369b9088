use Rattle.std.proofs.Common.{◌≡◌, ℕ, ◌++◌, List, [], length, map, drop}
use Rattle.hb_libfile.specs.Format.{texts_bytes}
use Rattle.hb_libfile.specs.Places.{Extends}
use Rattle.hb_libfile.proofs.item.Decoder.names.Given as goal

abbrev pub invariant-loop-i : goal.invariant-loop-i
invariant-loop-i l =
    (l.self.reader.bytes ≡ l.initial.self.reader.bytes) × (l.self.binders ≡ l.initial.self.binders) × Extends l.initial.names l.names × (l.initial.names ≡ [] → (length l.names ≡ l._i) × (drop l.initial.self.reader.place l.initial.self.reader.bytes.now ≡ texts_bytes l.names ++ drop l.self.reader.place l.self.reader.bytes.now))
