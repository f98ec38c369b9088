-- Walks inside walks, one look at a time.
use Rattle.std.proofs.Common.{◌≡◌, ◌<◌, ◌≤◌, ◌+◌, ◌∙◌, ℕ, List, [], ◌∷◌, ◌++◌, length, map, drop, reverse, slice_index_or, Option, None, Some, Ok, refl, sym, ap, arith, slice_get}
use Rattle.std.proofs.lemmas.List.{length-map, reverse-append, drop_all}
use Rattle.std.proofs.lemmas.Option.{slice_get_within, get_or_from_slice_get, slice_get_read}
use Rattle.std.proofs.Math.Seq.{drop-cons}
use Rattle.std.proofs.Math.Numerals.{suc-eq-add-one}
use Rattle.hb_tree.specs.Tree.{Tree}
use Rattle.hb_tree.specs.declared.leaves.ConstId.{ConstId}
use Rattle.hb_sets.specs.Set.{Set}
use Rattle.hb_order.specs.declared.ids.StructId.{StructId}
use Rattle.hb_term.specs.Meaning.{tree}
use Rattle.hb_term.specs.declared.term.Term.{Term}
use Rattle.hb_calculus.specs.Budget.{TooLarge}
use Rattle.hb_keys.specs.Setting.{Setting}
use Rattle.hb_keys.specs.Keys as keys
use Rattle.hb_keys.specs.Keys.{with_value, value_at, mixins_of}
use Rattle.hb_keys.specs.Walks as walks
use Rattle.hb_keys.specs.Walks.{Walks, walk_memory, walk_moves, walk_large, walk_found, walk_stops, Tries, try_plain, try_has, try_lacks, try_stops, TriesAll, all_end, all_plain, all_found, all_lack, all_stop, NeedsAre}
use Rattle.hb_found.specs.Plain.{key, number, numbers, stop, trees_or, IsAfter}
use Rattle.hb_found.proofs.KeyLemmas.{are_as_many}
use Rattle.hb_found.specs.Frames.{Question, Answers, IsOn, AreAsked, IsAsking, Waits, Held, Gains, question_of, moves_of_end, IsSight, IsSpentAt}
use Rattle.hb_found.specs.declared.frames.Walker.{Walker}
use Rattle.hb_found.specs.declared.frames.Frame.{Frame}
use Rattle.hb_found.specs.declared.frames.Waiting.{Waiting}
use Rattle.hb_found.specs.declared.frames.Sight.{Sight}
use Rattle.hb_found.specs.declared.frames.Seen.TheVariants as seen
use Rattle.hb_found.specs.declared.key.Key as code
use Rattle.hb_found.specs.declared.ends.End.{End}
use Rattle.hb_found.specs.declared.ends.End.TheVariants.{Found, Missing}
use Rattle.hb_found.specs.declared.ends.Stop.{Stop}
use Rattle.hb_found.specs.declared.ends.Stop.TheVariants.{Spent, Moves, NoMemory}

-- the looks at a constant's arguments, as those at the arguments of the term
as_many : {S : Setting} {n : ℕ} {X : Set} {t : Tree} {c : ConstId} {us : List (Option StructId)} {ts : List Term} → AreAsked S n X t c us ts
    → NeedsAre S c X (length (map tree ts)) (numbers us)
as_many {ts = ts} a = rw (length-map ts tree) a.needs

pub asked_has :
    {S : Setting} {n m m' : ℕ} {X : Set} {t : Tree} {c : ConstId} {us : List (Option StructId)} {ts : List Term} {bs : Option (List Tree)} → AreAsked S n X t c us ts
    → TriesAll S n (Some []) (numbers us) (map tree ts) m (walks.all_have bs m') → Tries S n X m t (walks.has (keys.constant c (numbers us) bs) m')
asked_has a h = try_has a.plain a.head a.args (as_many a) h

pub asked_lacks :
    {S : Setting} {n m m' : ℕ} {X : Set} {t : Tree} {c : ConstId} {us : List (Option StructId)} {ts : List Term} → AreAsked S n X t c us ts
    → TriesAll S n (Some []) (numbers us) (map tree ts) m (walks.one_lacks m') → Tries S n X m t (walks.lacks m')
asked_lacks a h = try_lacks a.plain a.head a.args (as_many a) h

pub asked_stops :
    {S : Setting} {n m : ℕ} {X : Set} {t : Tree} {c : ConstId} {us : List (Option StructId)} {ts : List Term} {s : walks.Stop} → AreAsked S n X t c us ts
    → TriesAll S n (Some []) (numbers us) (map tree ts) m (walks.looks_stop s) → Tries S n X m t (walks.look_stops s)
asked_stops a h = try_stops a.plain a.head a.args (as_many a) h

-- the look at a waiting argument, from how its walk ends
walks_at : {S : Setting} {n : ℕ} {f : Waiting} {q : Question} (e : walks.End) → Waits S n f q → Answers S n q e → Walks S n q.set f.frame.moves q.carrier q.carrier e
walks_at e w a = rw w.start at a

pub inner_stops :
    (S : Setting) (n : ℕ) (f : Waiting) (q : Question) (s : walks.Stop) → Waits S n f q → Answers S n q (walks.stops s)
    → TriesAll S n (Some []) (numbers f.frame.needs.items) (map tree f.frame.args.items) (f.frame.walker.moves + 1) (walks.looks_stop s)
inner_stops S n f q s w a = w.asking.over _ (rw (w.need, w.arg) (all_stop w.set (walks_at _ w a)))

pub inner_lacks :
    (S : Setting) (n m : ℕ) (f : Waiting) (q : Question) → Waits S n f q → Answers S n q (walks.missing m)
    → Tries S n f.frame.walker.set (f.frame.walker.moves + 1) f.frame.walker.next (walks.lacks m)
inner_lacks S n m f q w a = asked_lacks w.asking.asked (w.asking.over _ (rw (w.need, w.arg) (all_lack w.set (walks_at _ w a))))

pub inner_found :
    (S : Setting) (n m : ℕ) (f : Waiting) (q : Question) (k : keys.Key) (t : Tree) (bs : Option (List Tree)) (l : walks.Looks) → Waits S n f q
    → Answers S n q (walks.found k t m) → bs ≡ with_value (trees_or f.frame.values) (value_at S n f.structure.0 k)
    → TriesAll S n bs (numbers (drop (f.frame.at + 1) f.frame.needs.items)) (map tree (drop (f.frame.at + 1) f.frame.args.items)) m l
    → TriesAll S n (Some []) (numbers f.frame.needs.items) (map tree f.frame.args.items) (f.frame.walker.moves + 1) l
inner_found S n m f q k t bs l w a b h = w.asking.over _ (rw (w.need, w.arg) (all_found w.set (walks_at _ w a) b h))

-- a stop of the innermost walk stops all that wait for it
pub stopped : (S : Setting) (n : ℕ) (p : Question) (fs : List Waiting) (q : Question) (s : walks.Stop) → Held S n p fs q → Answers S n q (walks.stops s) → Answers S n p (walks.stops s)
stopped S n p [] q s h a = rw h at a
stopped S n p (f ∷ fs) q s h a =
    stopped S n p fs (question_of f.frame.walker) s h.1
    (h.0.asking.seen.on _ (walk_stops h.0.asking.seen.room h.0.asking.seen.fits refl (asked_stops h.0.asking.asked (inner_stops S n f q s h.0 a))))

-- a walk that is spent
pub spent_at :
    (S : Setting) (n m : ℕ) (X : Set) (a t : Tree) (r : Stop) → m < S.limits.steps → TooLarge S.limits t → IsSpentAt a r
    → Walks S n X m a t (walks.stops (stop r))
spent_at S n m X a t (Spent u) l h e = rw e (walk_large l h)
spent_at S n m X a t NoMemory l h e = walk_memory
spent_at S n m X a t Moves l h e = absurd e

-- what is left from a place on
pub drop_at : {A : Type 0} (xs : List A) (i : ℕ) (x : A) → slice_get xs i ≡ Some x → drop i xs ≡ x ∷ drop (i + 1) xs
drop_at xs i x h = drop-cons xs i x (slice_get_within xs i x h) ∙ (λ j. get_or_from_slice_get xs i x x h j ∷ drop (suc-eq-add-one i j) xs)

-- a walk at its first term
pub begun_on : (S : Setting) (n : ℕ) (w : Walker) → w.next ≡ tree w.first → w.moves ≡ w.start → IsOn S n w
begun_on S n w a b = λ e h. rw (a, b) at h

pub asked_for : (w : Walker) (X : Set) (m : ℕ) (t : Term) → w.set ≡ X → w.start ≡ m → w.first ≡ t → question_of w ≡ record { set = X; start = m; carrier = tree t }
asked_for w X m t a b c = λ i. record { set = a i; start = b i; carrier = tree (c i) }

-- a key is seen
pub has_seen :
    (S : Setting) (n : ℕ) (w : Walker) (s : Sight) (k : code.Key) (t : Term) → IsOn S n w → IsSight S n w s → s.seen ≡ seen.Has k → tree t ≡ w.next
    → Answers S n (question_of w) (walks.found (key k) (tree t) s.moves)
has_seen S n w s k t on i h e =
    let p : keys.plain_key S n w.set w.next ≡ Some (key k) = rw h at i.seen in
    rw (e, i.moves) (on _ (walk_found i.room i.fits refl (try_plain p)))

-- a look goes past an argument that needs nothing
pub asking_plain :
    (S : Setting) (n : ℕ) (f g : Frame) (t : Term) → IsAsking S n f → slice_get f.needs.items f.at ≡ Some None → slice_get f.args.items f.at ≡ Some t
    → g.walker ≡ f.walker → g.constant ≡ f.constant → g.needs ≡ f.needs → g.args ≡ f.args → g.at ≡ f.at + 1 → g.moves ≡ f.moves
    → trees_or g.values ≡ with_value (trees_or f.values) (Some (tree t)) → IsAsking S n g
asking_plain S n f g t o u a w c us ts i m b = record {
  seen = rw w o.seen;
  asked = rw (w, c, us, ts) o.asked;
  over =
      λ l h.
      let h' : TriesAll S n (trees_or g.values) (numbers (drop (f.at + 1) f.needs.items)) (map tree (drop (f.at + 1) f.args.items)) f.moves l = rw (us, ts, i, m) at h in
      let k : TriesAll S n (trees_or f.values) (numbers (drop f.at f.needs.items)) (map tree (drop f.at f.args.items)) f.moves l =
      rw (drop_at f.needs.items f.at None u, drop_at f.args.items f.at t a) (all_plain b h')
      in
      rw (w, us, ts) (o.over l k);
}

-- there are as many arguments as needs
pub at_inside :
    (S : Setting) (n : ℕ) (f : Frame) (o : Option StructId) → IsAsking S n f → slice_get f.needs.items f.at ≡ Some o → f.at < length f.args.items
at_inside S n f o a u =
    let k : length f.needs.items ≡ length f.args.items = sym (length-map f.needs.items number) ∙ are_as_many a.asked.needs.needs in
    let h : f.at < length f.needs.items = slice_get_within f.needs.items f.at o u in
    omega (arith, k, h)

-- a look waits for the walk of its next argument
pub waits_at :
    (S : Setting) (n : ℕ) (f : Frame) (U : StructId) (q : Question) (t : Term) → IsAsking S n f → slice_get f.needs.items f.at ≡ Some (Some U)
    → slice_get f.args.items f.at ≡ Some t → q.carrier ≡ tree t → q.set ≡ mixins_of S U.0 → q.start ≡ f.moves
    → Waits S n (record { frame = f; structure = U }) q
waits_at S n f U q t o u a c x m = record {
  asking = o;
  need = ap numbers (drop_at f.needs.items f.at (Some U) u);
  arg = rw c (ap (map tree) (drop_at f.args.items f.at t a));
  set = x;
  start = m;
}

-- the arguments that are left have what is needed of them
pub whole_at :
    (S : Setting) (n : ℕ) (f : Frame) (t : Term) → IsAsking S n f → length f.needs.items ≤ f.at → tree t ≡ f.walker.next
    → Answers S n (question_of f.walker) (walks.found (keys.constant f.constant (numbers f.needs.items) (trees_or f.values)) (tree t) f.moves)
whole_at S n f t o l e =
    let k : length f.needs.items ≡ length f.args.items = sym (length-map f.needs.items number) ∙ are_as_many o.asked.needs.needs in
    let d : length f.args.items ≤ f.at = rw k at l in
    let h : TriesAll S n (trees_or f.values) (numbers (drop f.at f.needs.items)) (map tree (drop f.at f.args.items)) f.moves (walks.all_have (trees_or f.values) f.moves) =
    rw (drop_all f.at f.needs.items l, drop_all f.at f.args.items d) all_end
    in
    rw e (o.seen.on _ (walk_found o.seen.room o.seen.fits refl (asked_has o.asked (o.over _ h))))

-- the walk of the next argument found a key
pub asking_found :
    (S : Setting) (n : ℕ) (f g : Frame) (U : StructId) (k : code.Key) (t : Term) → Gains S n f U k t g.moves → g.walker ≡ f.walker → g.constant ≡ f.constant
    → g.needs ≡ f.needs → g.args ≡ f.args → g.at ≡ f.at + 1 → trees_or g.values ≡ with_value (trees_or f.values) (value_at S n U.0 (key k)) → IsAsking S n g
asking_found S n f g U k t r w c us ts i b = record {
  seen = rw w r.waits.asking.seen;
  asked = rw (w, c, us, ts) r.waits.asking.asked;
  over =
      λ l h.
      let h' : TriesAll S n (trees_or g.values) (numbers (drop (f.at + 1) f.needs.items)) (map tree (drop (f.at + 1) f.args.items)) g.moves l = rw (us, ts, i) at h in
      rw (w, us, ts) (inner_found S n g.moves (record { frame = f; structure = U }) r.question (key k) (tree t) (trees_or g.values) l r.waits r.answers b h');
}

-- the stack of looks that wait
pub held_popped :
    (S : Setting) (n : ℕ) (p : Question) (fs rest : List Waiting) (f : Waiting) (q : Question) → fs ≡ rest ++ f ∷ [] → Held S n p (reverse fs) q
    → Waits S n f q × Held S n p (reverse rest) (question_of f.frame.walker)
held_popped S n p fs rest f q e h = let k : reverse fs ≡ f ∷ reverse rest = ap reverse e ∙ reverse-append rest (f ∷ []) in rw k at h

pub held_put :
    (S : Setting) (n : ℕ) (p : Question) (fs gs : List Waiting) (f : Waiting) (q r : Question) → fs ≡ f ∷ gs → Waits S n f q
    → question_of f.frame.walker ≡ r → Held S n p gs r → Held S n p fs q
held_put S n p fs gs f q r e w i h = rw e (w, rw i h)

pub held_same : (S : Setting) (n : ℕ) (p : Question) (fs : List Waiting) (q r : Question) → q ≡ r → Held S n p fs r → Held S n p fs q
held_same S n p fs q r e h = rw e h

pub held_none : (S : Setting) (n : ℕ) (p : Question) (fs : List Waiting) (q : Question) → fs ≡ [] → q ≡ p → Held S n p (reverse fs) q
held_none S n p fs q e h = rw e h

pub all_ended : (S : Setting) (n : ℕ) (p : Question) (fs : List Waiting) (q : Question) (e : walks.End) → fs ≡ [] → Held S n p (reverse fs) q → Answers S n q e → Answers S n p e
all_ended S n p fs q e z h a = let k : q ≡ p = rw z at h in rw k at a

pub is_after : (m : ℕ) (e : End) → m ≤ moves_of_end e → IsAfter m (Ok e)
is_after m (Found k t i) h = h
is_after m (Missing i) h = h

-- what stands at a place of a list
pub read_at : {A : Type 0} (xs : List A) (n i : ℕ) (x y : A) → n ≡ length xs → i < n → x ≡ slice_index_or xs i x → x ≡ y → slice_get xs i ≡ Some y
read_at xs n i x y e l r h = slice_get_read xs n i x e l r ∙ ap Some h
