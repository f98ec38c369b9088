-- Signs of one token that differ in numbers which a step doesn't read: terms.
use Rattle.std.proofs.Common.{◌≡◌, ℕ, Bool, true, false, List, Option, refl}
use Rattle.hb_base.specs.declared.name_id.NameId.{NameId}
use Rattle.hb_base.specs.declared.span.Span.{Span}
use Rattle.hb_raw.specs.declared.word.Word.{Word}
use Rattle.hb_raw.specs.Preterm.{Preterm, Group}
use Rattle.hb_grammar.specs.declared.mark.Mark.{Mark}
use Rattle.hb_grammar.specs.declared.mark.Mark.TheVariants.{Ident, Pair, Prop, Universe, Forall, Fun, Hole, Open, Close, Brace, Unbrace, Colon, Becomes, Arrow, Semicolon, At, Project, End}
use Rattle.hb_grammar.specs.declared.mark.Second.{Second}
use Rattle.hb_grammar.specs.Part.{Part}
use Rattle.hb_grammar.specs.Grammar.{Bounds}
use Rattle.hb_grammar.specs.Machine as plain
use Rattle.hb_reader.specs.declared.term.TermState.{TermState}
use Rattle.hb_reader.specs.declared.term.TermState.TheVariants as terms
use Rattle.hb_reader.specs.Stacks.{stack}
use Rattle.hb_reader.specs.Views.{part, before}
use Rattle.hb_reader.specs.States.{term_state}
use Rattle.hb_reader.proofs.AlikeRows.{sign_of, Blind, ByWhole}

-- what closes a term reads the place of the token alone
abbrev pub Closes : plain.Stack → Mark → Type 0
Closes k m = (q : Part) (a b f g : NameId) (n : ℕ) (p : Span)
    → plain.closed k m q (sign_of a f n p) ≡ plain.closed k m q (sign_of b g n p)

pub inside_closes : (h : plain.Before) (x : Span) (k : plain.Stack) (m : Mark) → Closes (plain.inside h x k) m
inside_closes h x k Close q a b f g n p = refl
inside_closes h x k Colon q a b f g n p = refl
inside_closes h x k _ q a b f g n p = refl

pub casting_closes : (h : plain.Before) (x : Span) (t : Part) (k : plain.Stack) (m : Mark) → Closes (plain.casting h x t k) m
casting_closes h x t k Close q a b f g n p = refl
casting_closes h x t k _ q a b f g n p = refl

pub group_closes : (h : plain.Binding) (gs : List Group) (c : ℕ) (xs : Bounds) (m : Mark) → Closes (plain.group_type h gs c xs) m
group_closes h gs c xs Close q a b f g n p = refl
group_closes h gs c xs _ q a b f g n p = refl

pub field_closes : (r : plain.RecordOf) (fs : List (Word × Preterm)) (w : Word) (m : Mark) → Closes (plain.field_type r fs w) m
field_closes r fs w Semicolon q a b f g n p = refl
field_closes r fs w Unbrace q a b f g n p = refl
field_closes r fs w _ q a b f g n p = refl

pub definition_closes : (x : Span) (w : Word) (gs : List Group) (c : ℕ) (m : Mark) → Closes (plain.definition_type x w gs c) m
definition_closes x w gs c Becomes q a b f g n p = refl
definition_closes x w gs c _ q a b f g n p = refl

pub axiom_closes : (x : Span) (w : Word) (m : Mark) → Closes (plain.axiom_type x w) m
axiom_closes x w End q a b f g n p = refl
axiom_closes x w _ q a b f g n p = refl

pub body_closes : (x : Span) (w : Word) (gs : List Group) (c : ℕ) (t : Option Preterm) (m : Mark) → Closes (plain.definition_body x w gs c t) m
body_closes x w gs c t End q a b f g n p = refl
body_closes x w gs c t _ q a b f g n p = refl

pub value_closes : (i : plain.InstanceOf) (u k : Word) (ws : List Word) (m : Mark) → Closes (plain.instance_value i u k ws) m
value_closes i u k ws End q a b f g n p = refl
value_closes i u k ws _ q a b f g n p = refl

pub build_closes : (i : plain.InstanceOf) (u k : Word) (ws : List Word) (m : Mark) → Closes (plain.build_value i u k ws) m
build_closes i u k ws End q a b f g n p = refl
build_closes i u k ws _ q a b f g n p = refl

pub found_closes : (x : Span) (s : Word) (m : Mark) → Closes (plain.carrier_found x s) m
found_closes x s End q a b f g n p = refl
found_closes x s _ q a b f g n p = refl

pub closes : (k : plain.Stack) (m : Mark) → Closes k m
closes (plain.right t k) m q a b f g n p = closes k m _ a b f g n p
closes (plain.body (plain.of_product x k) gs c) m q a b f g n p = closes k m _ a b f g n p
closes (plain.body (plain.of_function x k) gs c) m q a b f g n p = closes k m _ a b f g n p
closes (plain.body (plain.of_definition x w) gs c) m q a b f g n p = refl
closes (plain.lone h xs) m q a b f g n p = refl
closes (plain.inside h x k) m q a b f g n p = inside_closes h x k m q a b f g n p
closes (plain.casting h x t k) m q a b f g n p = casting_closes h x t k m q a b f g n p
closes (plain.group_type h gs c xs) m q a b f g n p = group_closes h gs c xs m q a b f g n p
closes (plain.axiom_type x w) m q a b f g n p = axiom_closes x w m q a b f g n p
closes (plain.definition_type x w gs c) m q a b f g n p = definition_closes x w gs c m q a b f g n p
closes (plain.definition_body x w gs c t) m q a b f g n p = body_closes x w gs c t m q a b f g n p
closes (plain.field_type r fs w) m q a b f g n p = field_closes r fs w m q a b f g n p
closes (plain.instance_value i u k ws) m q a b f g n p = value_closes i u k ws m q a b f g n p
closes (plain.build_value i u k ws) m q a b f g n p = build_closes i u k ws m q a b f g n p
closes (plain.carrier_found x s) m q a b f g n p = found_closes x s m q a b f g n p

-- tokens that are no names, in terms
abbrev pub NoName : Mark → Type 0
NoName m = (m ≡ Ident → ⊥) × ((s : Second) → m ≡ Pair s → ⊥)

pub argument_blind : (h : plain.Before) (k : plain.Stack) (m : Mark) → NoName m → (a b f g : NameId) (n : ℕ) (p : Span)
    → plain.argument h k m (sign_of a f n p) ≡ plain.argument h k m (sign_of b g n p)
argument_blind h k Ident e a b f g n p = absurd (e.0 refl)
argument_blind h k (Pair s) e a b f g n p = absurd (e.1 s refl)
argument_blind h k At e a b f g n p = refl
argument_blind h k Hole e a b f g n p = refl
argument_blind h k Prop e a b f g n p = refl
argument_blind h k Universe e a b f g n p = refl
argument_blind h k Open e a b f g n p = refl
argument_blind h k _ e a b f g n p = refl

pub argument_whole : (h : plain.Before) (k : plain.Stack) (m : Mark) (a f g : NameId) (n : ℕ) (p : Span)
    → plain.argument h k m (sign_of a f n p) ≡ plain.argument h k m (sign_of a g n p)
argument_whole h k Ident a f g n p = refl
argument_whole h k (Pair s) a f g n p = refl
argument_whole h k At a f g n p = refl
argument_whole h k Hole a f g n p = refl
argument_whole h k Prop a f g n p = refl
argument_whole h k Universe a f g n p = refl
argument_whole h k Open a f g n p = refl
argument_whole h k _ a f g n p = refl

pub want_blind : (h : plain.Before) (k : plain.Stack) (m : Mark) → NoName m → Blind (plain.want h k) m
want_blind plain.first k Forall e a b f g n p = refl
want_blind plain.first k Fun e a b f g n p = refl
want_blind plain.first k m e a b f g n p = argument_blind plain.first k m e a b f g n p
want_blind plain.alone k m e a b f g n p = argument_blind plain.alone k m e a b f g n p
want_blind (plain.behind s) k m e a b f g n p = argument_blind (plain.behind s) k m e a b f g n p
want_blind (plain.making s) k m e a b f g n p = argument_blind (plain.making s) k m e a b f g n p

pub name_whole : (h : plain.Before) (k : plain.Stack) → ByWhole (plain.want h k) Ident
name_whole plain.first k a f g n p = refl
name_whole plain.alone k a f g n p = refl
name_whole (plain.behind s) k a f g n p = refl
name_whole (plain.making s) k a f g n p = refl

pub pair_whole : (h : plain.Before) (k : plain.Stack) (s : Second) → ByWhole (plain.want h k) (Pair s)
pair_whole plain.first k s a f g n p = refl
pair_whole plain.alone k s a f g n p = refl
pair_whole (plain.behind t) k s a f g n p = refl
pair_whole (plain.making t) k s a f g n p = refl

pub applied_blind : (h : plain.Before) (t : Part) (k : plain.Stack) (m : Mark) → NoName m → (a b f g : NameId) (n : ℕ) (p : Span)
    → plain.applied_or_closed h t k m (sign_of a f n p) ≡ plain.applied_or_closed h t k m (sign_of b g n p)
applied_blind h t k Ident e a b f g n p = absurd (e.0 refl)
applied_blind h t k (Pair s) e a b f g n p = absurd (e.1 s refl)
applied_blind plain.alone t k At e a b f g n p = refl
applied_blind plain.alone t k Hole e a b f g n p = refl
applied_blind plain.alone t k Prop e a b f g n p = refl
applied_blind plain.alone t k Universe e a b f g n p = refl
applied_blind plain.alone t k Open e a b f g n p = refl
applied_blind plain.alone t k m e a b f g n p = closes k m _ a b f g n p
applied_blind h t k At e a b f g n p = refl
applied_blind h t k Hole e a b f g n p = refl
applied_blind h t k Prop e a b f g n p = refl
applied_blind h t k Universe e a b f g n p = refl
applied_blind h t k Open e a b f g n p = refl
applied_blind h t k m e a b f g n p = closes k m _ a b f g n p

pub have_blind : (h : plain.Before) (t : Part) (u : Bool) (k : plain.Stack) (m : Mark) → NoName m → Blind (plain.have h t u k) m
have_blind h t u k Project e a b f g n p = refl
have_blind h t u k Arrow e a b f g n p = refl
have_blind h t true k At e a b f g n p = refl
have_blind h t false k At e a b f g n p = applied_blind h t k At e a b f g n p
have_blind h t true k m e a b f g n p = applied_blind h t k m e a b f g n p
have_blind h t false k m e a b f g n p = applied_blind h t k m e a b f g n p

pub have_name : (h : plain.Before) (t : Part) (u : Bool) (k : plain.Stack) → ByWhole (plain.have h t u k) Ident
have_name plain.alone t true k a f g n p = refl
have_name plain.alone t false k a f g n p = refl
have_name plain.first t true k a f g n p = refl
have_name plain.first t false k a f g n p = refl
have_name (plain.behind s) t true k a f g n p = refl
have_name (plain.behind s) t false k a f g n p = refl
have_name (plain.making s) t true k a f g n p = refl
have_name (plain.making s) t false k a f g n p = refl

pub have_pair : (h : plain.Before) (t : Part) (u : Bool) (k : plain.Stack) (s : Second) → ByWhole (plain.have h t u k) (Pair s)
have_pair plain.alone t true k s a f g n p = refl
have_pair plain.alone t false k s a f g n p = refl
have_pair plain.first t true k s a f g n p = refl
have_pair plain.first t false k s a f g n p = refl
have_pair (plain.behind v) t true k s a f g n p = refl
have_pair (plain.behind v) t false k s a f g n p = refl
have_pair (plain.making v) t true k s a f g n p = refl
have_pair (plain.making v) t false k s a f g n p = refl

pub more_blind : (h : plain.Before) (k : plain.Stack) (m : Mark) → NoName m → Blind (plain.more h k) m
more_blind (plain.making s) k End e a b f g n p = closes k End _ a b f g n p
more_blind (plain.making s) k m e a b f g n p = argument_blind (plain.making s) k m e a b f g n p
more_blind plain.first k m e a b f g n p = refl
more_blind plain.alone k m e a b f g n p = refl
more_blind (plain.behind s) k m e a b f g n p = refl

pub more_name : (h : plain.Before) (k : plain.Stack) → ByWhole (plain.more h k) Ident
more_name (plain.making s) k a f g n p = refl
more_name plain.first k a f g n p = refl
more_name plain.alone k a f g n p = refl
more_name (plain.behind s) k a f g n p = refl

pub more_pair : (h : plain.Before) (k : plain.Stack) (s : Second) → ByWhole (plain.more h k) (Pair s)
more_pair (plain.making t) k s a f g n p = refl
more_pair plain.first k s a f g n p = refl
more_pair plain.alone k s a f g n p = refl
more_pair (plain.behind t) k s a f g n p = refl

pub bare_blind : (h : plain.Before) (x : Span) (k : plain.Stack) (m : Mark) → NoName m → Blind (plain.bare_begun h x k) m
bare_blind h x k Ident e a b f g n p = absurd (e.0 refl)
bare_blind h x k (Pair s) e a b f g n p = absurd (e.1 s refl)
bare_blind h x k _ e a b f g n p = refl

pub universe_blind : (h : plain.Before) (t : Part) (x : Span) (k : plain.Stack) (m : Mark) → NoName m → Blind (plain.universe_at h t x k) m
universe_blind h t x k Ident e a b f g n p = absurd (e.0 refl)
universe_blind h t x k (Pair s) e a b f g n p = absurd (e.1 s refl)
universe_blind h t x k Brace e a b f g n p = refl
universe_blind plain.alone t x k _ e a b f g n p = refl
universe_blind plain.first t x k _ e a b f g n p = refl
universe_blind (plain.behind s) t x k _ e a b f g n p = refl
universe_blind (plain.making s) t x k _ e a b f g n p = refl

pub universe_name : (h : plain.Before) (t : Part) (x : Span) (k : plain.Stack) → ByWhole (plain.universe_at h t x k) Ident
universe_name plain.alone t x k a f g n p = refl
universe_name plain.first t x k a f g n p = refl
universe_name (plain.behind s) t x k a f g n p = refl
universe_name (plain.making s) t x k a f g n p = refl

pub universe_pair : (h : plain.Before) (t : Part) (x : Span) (k : plain.Stack) (s : Second) → ByWhole (plain.universe_at h t x k) (Pair s)
universe_pair plain.alone t x k s a f g n p = refl
universe_pair plain.first t x k s a f g n p = refl
universe_pair (plain.behind v) t x k s a f g n p = refl
universe_pair (plain.making v) t x k s a f g n p = refl

pub projecting_blind : (h : plain.Before) (t : Part) (k : plain.Stack) (m : Mark) → NoName m → Blind (plain.projecting h t k) m
projecting_blind h t k Ident e a b f g n p = absurd (e.0 refl)
projecting_blind h t k (Pair s) e a b f g n p = absurd (e.1 s refl)
projecting_blind h t k _ e a b f g n p = refl

pub term_blind : (t : TermState) (m : Mark) → NoName m → Blind (term_state t) m
term_blind (terms.Want h k) m e = want_blind _ _ m e
term_blind (terms.Have h t u k) m e = have_blind _ _ u _ m e
term_blind (terms.More h k) m e = more_blind _ _ m e
term_blind (terms.Bare h x k) m e = bare_blind _ x _ m e
term_blind (terms.UniverseAt h t x k) m e = universe_blind _ _ x _ m e
term_blind (terms.Level h t k) m e = λ a b f g n p. refl
term_blind (terms.LevelClose h t v k) m e = λ a b f g n p. refl
term_blind (terms.Projecting h t k) m e = projecting_blind (before h) (part t) (stack k) m e
term_blind (terms.ProjectClose h t v k) m e = λ a b f g n p. refl

pub term_name : (t : TermState) → ByWhole (term_state t) Ident
term_name (terms.Want h k) = name_whole _ _
term_name (terms.Have h t u k) = have_name _ _ u _
term_name (terms.More h k) = more_name _ _
term_name (terms.Bare h x k) = λ a f g n p. refl
term_name (terms.UniverseAt h t x k) = universe_name _ _ x _
term_name (terms.Level h t k) = λ a f g n p. refl
term_name (terms.LevelClose h t v k) = λ a f g n p. refl
term_name (terms.Projecting h t k) = λ a f g n p. refl
term_name (terms.ProjectClose h t v k) = λ a f g n p. refl

pub term_pair : (t : TermState) (s : Second) → ByWhole (term_state t) (Pair s)
term_pair (terms.Want h k) s = pair_whole _ _ s
term_pair (terms.Have h t u k) s = have_pair _ _ u _ s
term_pair (terms.More h k) s = more_pair _ _ s
term_pair (terms.Bare h x k) s = λ a f g n p. refl
term_pair (terms.UniverseAt h t x k) s = universe_pair _ _ x _ s
term_pair (terms.Level h t k) s = λ a f g n p. refl
term_pair (terms.LevelClose h t v k) s = λ a f g n p. refl
term_pair (terms.Projecting h t k) s = λ a f g n p. refl
term_pair (terms.ProjectClose h t v k) s = λ a f g n p. refl
