-- Frames with one more, and what is kept for them.
use Rattle.std.proofs.Common.{◌≡◌, ℕ, ◌+◌, List, [], ◌∷◌, ◌++◌, map, refl, ap, ◌∙◌, sym}
use Rattle.std.proofs.lemmas.List.{map-append}
use Rattle.hb_raw.specs.Preterm.{Group}
use Rattle.hb_grammar.specs.Machine as plain
use Rattle.hb_grammar.specs.declared.mark.Mark.{Mark}
use Rattle.hb_grammar.specs.Leaf.{Sign}
use Rattle.hb_grammar.specs.Part.{Part}
use Rattle.hb_reader.specs.declared.frame.Opener.{Opener}
use Rattle.hb_reader.specs.declared.frame.Opener.TheVariants.{Forall, Fun}
use Rattle.hb_reader.specs.declared.frame.Frame.{Frame}
use Rattle.hb_reader.specs.declared.frame.Nesting.{Nesting}
use Rattle.hb_reader.specs.declared.stack.Kept.{Kept}
use Rattle.hb_reader.specs.Measures.{counted}
use Rattle.hb_reader.specs.Frames.{opener_of, bound_part, frame_of, frames_on, nesting_of, around_each}

pub opener-depth : (o : Opener) (k : plain.Stack) → plain.binding_depth (opener_of o k) ≡ plain.depth k
opener-depth (Forall x) k = refl
opener-depth (Fun x) k = refl

pub opener-closing : (o : Opener) (k : plain.Stack) → plain.binding_closing (opener_of o k) ≡ plain.closing k
opener-closing (Forall x) k = refl
opener-closing (Fun x) k = refl

pub opener-closed : (o : Opener) (gs : List Group) (k : plain.Stack) (m : Mark) (p : Part) (w : Sign)
    → plain.closed_body (opener_of o k) gs m p w ≡ plain.closed k m (bound_part o gs p) w
opener-closed (Forall x) gs k m p w = refl
opener-closed (Fun x) gs k m p w = refl

abbrev pub kept : Frame → Nesting → Kept
kept f n = record { frame = f; around = n }

pub frames_on-more : (fs : List Kept) (k : plain.Stack) (f : Kept)
    → frames_on k (fs ++ (f ∷ [])) ≡ frame_of f.frame (frames_on k fs)
frames_on-more [] k f = refl
frames_on-more (g ∷ fs) k f = frames_on-more fs (frame_of g.frame k) f

pub around_each-more : (fs : List Kept) (k : plain.Stack) (f : Kept)
    → around_each k (fs ++ (f ∷ [])) ≡ around_each k fs ++ (nesting_of (frames_on k fs) ∷ [])
around_each-more [] k f = refl
around_each-more (g ∷ fs) k f = ap (λ ns. nesting_of k ∷ ns) (around_each-more fs (frame_of g.frame k) f)

abbrev first_or : Nesting → List Nesting → Nesting
first_or d [] = d
first_or d (n ∷ ns) = n

abbrev rest : List Nesting → List Nesting
rest [] = []
rest (n ∷ ns) = ns

-- one more frame keeps the nesting around it
pub pushed-kept : (fs : List Kept) (k : plain.Stack) (f : Kept) → map (λ g. g.around) fs ≡ around_each k fs
    → f.around ≡ nesting_of (frames_on k fs)
    → map (λ g. g.around) (fs ++ (f ∷ [])) ≡ around_each k (fs ++ (f ∷ []))
pushed-kept fs k f e h =
    map-append (λ g. g.around) fs (f ∷ [])
    ∙ (ap (λ ns. ns ++ (f.around ∷ [])) e
    ∙ (ap (λ n. around_each k fs ++ (n ∷ [])) h ∙ sym (around_each-more fs k f)))

-- what the last frame kept, and what the others kept
pub last-kept : (fs : List Kept) (k : plain.Stack) (f : Kept)
    → map (λ g. g.around) (fs ++ (f ∷ [])) ≡ around_each k (fs ++ (f ∷ []))
    → f.around ≡ nesting_of (frames_on k fs)
last-kept [] k f e = ap (first_or (nesting_of k)) e
last-kept (g ∷ fs) k f e = last-kept fs (frame_of g.frame k) f (ap rest e)

pub others-kept : (fs : List Kept) (k : plain.Stack) (f : Kept)
    → map (λ g. g.around) (fs ++ (f ∷ [])) ≡ around_each k (fs ++ (f ∷ []))
    → map (λ g. g.around) fs ≡ around_each k fs
others-kept [] k f e = refl
others-kept (g ∷ fs) k f e =
    ap (λ n. n ∷ map (λ h. h.around) fs) (ap (first_or (nesting_of k)) e)
    ∙ ap (λ ns. nesting_of k ∷ ns) (others-kept fs (frame_of g.frame k) f (ap rest e))

abbrev nesting : ℕ → ℕ → Nesting
nesting w c = record { within = w; closing = c }

-- the nesting in a body
pub body-nesting : (o : Opener) (gs : List Group) (n : ℕ) (k : plain.Stack) (w c : ℕ)
    → w ≡ counted (plain.depth k + n) → c ≡ counted (plain.closing k)
    → nesting w c ≡ nesting_of (plain.body (opener_of o k) gs n)
body-nesting (Forall x) gs n k w c p q = ap (λ v. nesting v c) p ∙ ap (λ d. nesting (counted (plain.depth k + n)) d) q
body-nesting (Fun x) gs n k w c p q = ap (λ v. nesting v c) p ∙ ap (λ d. nesting (counted (plain.depth k + n)) d) q
