-- What a step reads, by the kind of its state.
use Rattle.std.proofs.Common.{◌≡◌, true, false, refl}
use Rattle.hb_grammar.specs.declared.mark.Mark.{Mark}
use Rattle.hb_grammar.specs.Machine as plain
use Rattle.hb_reader.specs.declared.need.Need.TheVariants.{Nothing}
use Rattle.hb_reader.specs.Needs.{row_need, name_need, need, is_row}
use Rattle.hb_reader.specs.States.{is_between}

pub need_row : (s : plain.State) (m : Mark) → is_row s ≡ true → need s m ≡ row_need m
need_row (plain.take d n f) m e = refl
need_row (plain.either d n f e o g) m h = refl
need_row _ m e = absurd (cc)

pub need_name : (s : plain.State) (m : Mark) → is_between s ≡ false → is_row s ≡ false → need s m ≡ name_need m
need_name plain.begin m b e = absurd (cc)
need_name (plain.take d n f) m b e = absurd (cc)
need_name (plain.either d n f e o g) m b h = absurd (cc)
need_name _ m b e = refl

pub need_begin : (s : plain.State) (m : Mark) → is_between s ≡ true → need s m ≡ Nothing
need_begin plain.begin m e = refl
need_begin _ m e = absurd (cc)
