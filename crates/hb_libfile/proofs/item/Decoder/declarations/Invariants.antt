use Rattle.std.proofs.Common.{◌≡◌, ℕ, ◌++◌, List, [], length, map, drop}
use Rattle.hb_libfile.specs.Format.{decls_bytes}
use Rattle.hb_env.specs.Plain.{plains}
use Rattle.hb_libfile.proofs.item.Decoder.declarations.Given as goal

abbrev pub invariant-loop-i : goal.invariant-loop-i
invariant-loop-i l =
    (l.self.reader.bytes ≡ l.initial.self.reader.bytes) × (l.self.binders ≡ l.initial.self.binders) × (length l.decls.items ≡ l._i) × (drop l.initial.self.reader.place l.initial.self.reader.bytes.now ≡ decls_bytes (plains l.decls.items) ++ drop l.self.reader.place l.self.reader.bytes.now)
