-- Walks inside walks: what one walk, and the looks that wait for the walks of their arguments, still have to show.
use Rattle.std.specs.Prelude.{◌≡◌, ℕ, ◌+◌, ◌<◌, List, [], ◌∷◌, length, map, reverse, drop, Option, Some, None, Result, Ok, Err}
use Rattle.std.specs.Global.{Vec}
use Rattle.hb_sets.specs.Set.{Set}
use Rattle.hb_order.specs.declared.ids.StructId.{StructId}
use Rattle.hb_tree.specs.Tree.{Tree, args_of}
use Rattle.hb_tree.specs.declared.leaves.ConstId.{ConstId}
use Rattle.hb_term.specs.Meaning.{tree}
use Rattle.hb_term.specs.declared.term.Term.{Term}
use Rattle.hb_calculus.specs.Budget.{TooLarge}
use Rattle.hb_keys.specs.Setting.{Setting}
use Rattle.hb_keys.specs.Keys.{plain_key, head_constant, mixins_of}
use Rattle.hb_keys.specs.Walks as walks
use Rattle.hb_keys.specs.Walks.{Walks, Tries, TriesAll, NeedsAre}
use Rattle.hb_found.specs.Plain.{key, stop, end, numbers, trees_or}
use Rattle.hb_found.specs.declared.ends.End.{End}
use Rattle.hb_found.specs.declared.ends.End.TheVariants.{Found, Missing}
use Rattle.hb_found.specs.declared.ends.Stop.{Stop}
use Rattle.hb_found.specs.declared.ends.Stop.TheVariants.{Spent, Moves, NoMemory}
use Rattle.hb_found.specs.declared.key.Key.{Key}
use Rattle.hb_found.specs.declared.frames.Walker.{Walker}
use Rattle.hb_found.specs.declared.frames.Frame.{Frame}
use Rattle.hb_found.specs.declared.frames.Waiting.{Waiting}
use Rattle.hb_found.specs.declared.frames.Asked.{Asked}
use Rattle.hb_found.specs.declared.frames.Sight.{Sight}
use Rattle.hb_found.specs.declared.frames.Seen.{Seen}
use Rattle.hb_found.specs.declared.frames.Seen.TheVariants as seen
use Rattle.hb_found.specs.declared.frames.Then.{Then}
use Rattle.hb_found.specs.declared.frames.Then.TheVariants as then
use Rattle.hb_found.specs.declared.frames.Next.{Next}
use Rattle.hb_found.specs.declared.frames.Next.TheVariants as next

-- a walk that is asked for: the set, the moves before it, and its first term
pub record Question : Type 0 where
  pub set : Set
  pub start : ℕ
  pub carrier : Tree

abbrev pub question : Asked → Question
question a = record { set = a.set.now; start = a.start; carrier = tree a.carrier.now }

abbrev pub question_of : Walker → Question
question_of w = record { set = w.set; start = w.start; carrier = tree w.first }

-- the walk ends so
abbrev pub Answers : Setting → ℕ → Question → walks.End → Type 0
Answers S n q e = Walks S n q.set q.start q.carrier q.carrier e

-- however the walk ends from its next term on, it ends from its first
abbrev pub IsOn : Setting → ℕ → Walker → Type 0
IsOn S n w = (e : walks.End) → Walks S n w.set w.moves (tree w.first) w.next e → Answers S n (question_of w) e

-- so, and its next term can be looked at
pub record IsSeen (S : Setting) (n : ℕ) (w : Walker) : Type 0 where
  pub on : IsOn S n w
  pub room : w.moves < S.limits.steps
  pub fits : ¬ TooLarge S.limits w.next

-- the term is a constant with arguments, which takes the set where each has what is needed of it
pub record AreAsked (S : Setting) (n : ℕ) (X : Set) (t : Tree) (c : ConstId) (us : List (Option StructId)) (ts : List Term) : Type 0 where
  pub plain : plain_key S n X t ≡ None
  pub head : head_constant t ≡ Some c
  pub args : map tree ts ≡ args_of t
  pub needs : NeedsAre S c X (length ts) (numbers us)

abbrev pub SeenIs : Setting → ℕ → Set → Tree → Seen → Type 0
SeenIs S n X t (seen.Has k) = plain_key S n X t ≡ Some (key k)
SeenIs S n X t seen.Lacks = (m : ℕ) → Tries S n X m t (walks.lacks m)
SeenIs S n X t (seen.Asks c us ts) = AreAsked S n X t c us.items ts.items

pub record IsSight (S : Setting) (n : ℕ) (w : Walker) (s : Sight) : Type 0 where
  pub room : w.moves < S.limits.steps
  pub fits : ¬ TooLarge S.limits w.next
  pub seen : SeenIs S n w.set w.next s.seen
  pub moves : s.moves ≡ w.moves + 1

abbrev pub SightIs : Setting → ℕ → Walker → Result Sight Stop → Type 0
SightIs S n w (Ok s) = IsSight S n w s
SightIs S n w (Err e) = Walks S n w.set w.moves (tree w.first) w.next (walks.stops (stop e))

abbrev pub IsSpentAt : Tree → Stop → Type 0
IsSpentAt a (Spent t) = tree t ≡ a
IsSpentAt a Moves = ⊥
IsSpentAt a NoMemory = Unit {0}

-- however the looks at the arguments that are left end, so do those at all
abbrev pub GoesOver : Setting → ℕ → Frame → Type 0
GoesOver S n f =
    (l : walks.Looks) → TriesAll S n (trees_or f.values) (numbers (drop f.at f.needs.items)) (map tree (drop f.at f.args.items)) f.moves l
    → TriesAll S n (Some []) (numbers f.needs.items) (map tree f.args.items) (f.walker.moves + 1) l

pub record IsAsking (S : Setting) (n : ℕ) (f : Frame) : Type 0 where
  pub seen : IsSeen S n f.walker
  pub asked : AreAsked S n f.walker.set f.walker.next f.constant f.needs.items f.args.items
  pub over : GoesOver S n f

-- the look waits for the walk of its next argument
pub record Waits (S : Setting) (n : ℕ) (f : Waiting) (q : Question) : Type 0 where
  pub asking : IsAsking S n f.frame
  pub need : numbers (drop f.frame.at f.frame.needs.items) ≡ Some f.structure.0 ∷ numbers (drop (f.frame.at + 1) f.frame.needs.items)
  pub arg : map tree (drop f.frame.at f.frame.args.items) ≡ q.carrier ∷ map tree (drop (f.frame.at + 1) f.frame.args.items)
  pub set : q.set ≡ mixins_of S f.structure.0
  pub start : q.start ≡ f.frame.moves

-- the looks that wait, the innermost first, from the walk q to the walk p that was asked for
abbrev pub Held : Setting → ℕ → Question → List Waiting → Question → Type 0
Held S n p [] q = q ≡ p
Held S n p (f ∷ fs) q = Waits S n f q × Held S n p fs (question_of f.frame.walker)

abbrev pub Stacked : Setting → ℕ → Question → Vec Waiting → Question → Type 0
Stacked S n p fs q = Held S n p (reverse fs.items) q

-- the walk for which the look waits ended so
pub record Receives (S : Setting) (n : ℕ) (f : Waiting) (e : End) : Type 0 where
  pub question : Question
  pub waits : Waits S n f question
  pub answers : Answers S n question (end (Ok e))

pub record Gains (S : Setting) (n : ℕ) (f : Frame) (s : StructId) (k : Key) (t : Term) (m : ℕ) : Type 0 where
  pub question : Question
  pub waits : Waits S n (record { frame = f; structure = s }) question
  pub answers : Answers S n question (walks.found (key k) (tree t) m)

-- what follows for the walk q
abbrev pub ThenIs : Setting → ℕ → Question → Then → Type 0
ThenIs S n q (then.Waits w f) = Waits S n f (question_of w) × IsOn S n w × (question_of f.frame.walker ≡ q)
ThenIs S n q (then.Goes w) = IsOn S n w × (question_of w ≡ q)
ThenIs S n q (then.Ends e) = Answers S n q (end (Ok e))

abbrev pub moves_of_end : End → ℕ
moves_of_end (Found k t m) = m
moves_of_end (Missing m) = m

abbrev pub moves_of_then : Then → ℕ
moves_of_then (then.Waits w f) = w.moves
moves_of_then (then.Goes w) = w.moves
moves_of_then (then.Ends e) = moves_of_end e

-- what follows for the walk p that was asked for
abbrev pub NextIs : Setting → ℕ → Question → Next → Type 0
NextIs S n p (next.Goes w fs) = IsOn S n w × Stacked S n p fs (question_of w)
NextIs S n p (next.Ends e) = Answers S n p (end (Ok e))

abbrev pub moves_of_next : Next → ℕ
moves_of_next (next.Goes w fs) = w.moves
moves_of_next (next.Ends e) = moves_of_end e

-- some walk goes on, waits or ended, and the stack waits for it
pub record GoesOn (S : Setting) (n : ℕ) (p : Question) (fs : Vec Waiting) (t : Then) : Type 0 where
  pub question : Question
  pub then_is : ThenIs S n question t
  pub held : Stacked S n p fs question

pub record IsEnded (S : Setting) (n : ℕ) (p : Question) (fs : Vec Waiting) (e : End) : Type 0 where
  pub question : Question
  pub answers : Answers S n question (end (Ok e))
  pub held : Stacked S n p fs question
