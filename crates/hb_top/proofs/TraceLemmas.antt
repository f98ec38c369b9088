-- Steps of a run, one after another.
use Rattle.std.proofs.Common.{◌≡◌, ℕ, ◌+◌, ◌<◌, ◌≤◌, List, [], ◌∷◌, ◌++◌, map, length, drop, reverse, slice_index_or, is_some, true, false, true≢false, Option, None, Some, Result, Ok, Err, OnOk, IfErr, IfOk, IfSome, refl, sym, ap, subst, ◌∙◌, string_bytes}
use Rattle.std.proofs.lemmas.List.{append-nil, append_assoc, drop_all, drop_more, reverse-append, reverse-reverse}
use Rattle.hb_base.specs.declared.name_id.NameId.{NameId}
use Rattle.hb_base.specs.declared.span.Span.{Span}
use Rattle.hb_calculus.specs.Declarations.{Decl}
use Rattle.hb_env.specs.declared.entry.Entry.{Entry}
use Rattle.hb_events.specs.declared.event.Event.{Event}
use Rattle.hb_events.specs.declared.event.Event.TheVariants as event
use Rattle.hb_io.specs.Told.{grown, Told, Untold, Missing, Holds, TellsOnly}
use Rattle.hb_io.specs.Whole.{WholeGives}
use Rattle.hb_io.specs.declared.whole.Whole.TheVariants.{Bytes}
use Rattle.std.specs.Global.{Vec}
use Rattle.hb_raw.specs.Views.{command as view, sentences}
use Rattle.hb_raw.specs.declared.command.Command.{Command}
use Rattle.hb_raw.specs.Sentence.{Act, require, Sentence, sentence}
use Rattle.hb_raw.specs.declared.word.Word.{Word}
use Rattle.hb_session.specs.Growing.{GrowsBy, LeavesBy}
use Rattle.hb_env.specs.Plain.{plains}
use Rattle.hb_session.specs.Source.{IsLibrary, IsSourceOf}
use Rattle.hb_session.specs.Taking.{Takes, GoesOn, OnlyNames}
use Rattle.hb_words.specs.Jobs.{is_library}
use Rattle.hb_top.specs.Agenda.{Agenda, IsLeft, file, core_text, command, source_end, required, entry, library, declaration, files_then, commands_then, entries_then, declarations_then}
use Rattle.hb_top.specs.Stack.{reading_then, required_then, stack_then, IsReading, IsRequired}
use Rattle.hb_top.specs.Stops.{FilesStay, IsOfSink, IsSourceFault}
use Rattle.hb_top.specs.Trace.{Point, IsSilent, Loads, IsAccepted, IsCoreEntry, Reads, Stride, Writes, Tells, numbers, opens, takes, closes, opens_required, passes, takes_required, opens_library, loads, lists, opens_core, adds, Goes, GoesPart, start, step, Halts, Ends, library_line, accepted_line, name_of_decl, required_source}
use Rattle.hb_top.specs.declared.source.Reading.{Reading}
use Rattle.hb_top.specs.declared.stop.Stop.{Stop}
use Rattle.hb_top.specs.declared.stop.Stop.TheVariants.{Refused, SourceFault, SinkFault, NoMemory}

-- ---- agendas

commands_before : (cs : List Sentence) (ts q : Agenda) → commands_then cs ts ++ q ≡ commands_then cs (ts ++ q)
commands_before [] ts q = refl
commands_before (c ∷ cs) ts q = ap (λ x. command c ∷ x) (commands_before cs ts q)

entries_before : (es : List Entry) (ts q : Agenda) → entries_then es ts ++ q ≡ entries_then es (ts ++ q)
entries_before [] ts q = refl
entries_before (e ∷ es) ts q = ap (λ x. entry e ∷ x) (entries_before es ts q)

declarations_before : (ds : List Decl) (ts q : Agenda) → declarations_then ds ts ++ q ≡ declarations_then ds (ts ++ q)
declarations_before [] ts q = refl
declarations_before (d ∷ ds) ts q = ap (λ x. declaration d ∷ x) (declarations_before ds ts q)

left_before : (ts q : Agenda) → IsLeft ts → IsLeft (ts ++ q)
left_before [] q h = absurd h
left_before (t ∷ ts) q h = tt

-- the last of a stack comes first
pub stack_last : (rs : List Reading) (r : Reading) (ts : Agenda) → stack_then (rs ++ (r ∷ [])) ts ≡ reading_then r (stack_then rs ts)
stack_last [] r ts = refl
stack_last (s ∷ rs) r ts = stack_last rs r (reading_then s ts)

-- ---- steps before what else is left

stride_before : (F : List ℕ → Told) (A B q : Agenda) (a b : Point) → Stride F A a B b → Stride F (A ++ q) a (B ++ q) b
stride_before F A B q a b (numbers n s) = numbers n s
stride_before F A B q a b (opens ts name bytes i cs l r h) =
    subst (λ x. Stride F (file name ∷ (ts ++ q)) a x b) (sym (commands_before cs (source_end ∷ ts) q)) (opens (ts ++ q) name bytes i cs l r h)
stride_before F A B q a b (takes s c e t w) = takes s c e t w
stride_before F A B q a b (closes n same s) = closes n same s
stride_before F A B q a b (opens_required ts s w bytes i cs r h) =
    subst (λ x. Stride F (command (sentence s (require w)) ∷ (ts ++ q)) a x b) (sym (commands_before cs (source_end ∷ required w ∷ ts) q)) (opens_required (ts ++ q) s w bytes i cs r h)
stride_before F A B q a b (passes s w same n) = passes s w same n
stride_before F A B q a b (takes_required w e t h) = takes_required w e t h
stride_before F A B q a b (opens_library ts name bytes es l r h) =
    subst (λ x. Stride F (file name ∷ (ts ++ q)) a x b) (sym (entries_before es (library name (length es) ∷ ts) q)) (opens_library (ts ++ q) name bytes es l r h)
stride_before F A B q a b (loads e t s) = loads e t s
stride_before F A B q a b (lists name n same w) = lists name n same w
stride_before F A B q a b (opens_core ts name bytes ds r) =
    subst (λ x. Stride F (core_text name ∷ (ts ++ q)) a x b) (sym (declarations_before ds ts q)) (opens_core (ts ++ q) name bytes ds r)
stride_before F A B q a b (adds d e n is named t w) = adds d e n is named t w

pub goes_before : (F : List ℕ → Told) (A q : Agenda) (a : Point) (B : Agenda) (b : Point) → Goes F A a B b → Goes F (A ++ q) a (B ++ q) b
goes_before F A q a B b start = start
goes_before F A q a B b (step {mid} {after} {m} p s) = step (goes_before F A q a mid m p) (stride_before F mid B q m b s)

-- ---- steps over files that are the same

same_told : (F G : List ℕ → Told) (n bytes : List ℕ) → FilesStay F G → TellsOnly (G n) bytes → TellsOnly (F n) bytes
same_told F G n bytes stay h = subst (λ t. TellsOnly t bytes) (stay n) h

same_reads : (F G : List ℕ → Told) (n bytes : List ℕ) (a b : Point) → FilesStay F G → Reads G n bytes a b → Reads F n bytes a b
same_reads F G n bytes a b stay r = record { told = same_told F G n bytes stay r.told; names = r.names; silent = r.silent }

same_stride : (F G : List ℕ → Told) (A B : Agenda) (a b : Point) → FilesStay F G → Stride G A a B b → Stride F A a B b
same_stride F G A B a b stay (numbers n s) = numbers n s
same_stride F G A B a b stay (opens ts name bytes i cs l r h) = opens ts name bytes i cs l (same_reads F G name bytes a b stay r) h
same_stride F G A B a b stay (takes s c e t w) = takes s c e t w
same_stride F G A B a b stay (closes n same s) = closes n same s
same_stride F G A B a b stay (opens_required ts s w bytes i cs r h) =
    opens_required ts s w bytes i cs (same_reads F G (required_source a.state w) bytes a b stay r) h
same_stride F G A B a b stay (passes s w same n) = passes s w same n
same_stride F G A B a b stay (takes_required w e t h) = takes_required w e t h
same_stride F G A B a b stay (opens_library ts name bytes es l r h) = opens_library ts name bytes es l (same_reads F G name bytes a b stay r) h
same_stride F G A B a b stay (loads e t s) = loads e t s
same_stride F G A B a b stay (lists name n same w) = lists name n same w
same_stride F G A B a b stay (opens_core ts name bytes ds r) = opens_core ts name bytes ds (same_reads F G name bytes a b stay r)
same_stride F G A B a b stay (adds d e n is named t w) = adds d e n is named t w

pub same_goes : (F G : List ℕ → Told) (A : Agenda) (a : Point) (B : Agenda) (b : Point) → FilesStay F G → Goes G A a B b → Goes F A a B b
same_goes F G A a B b stay start = start
same_goes F G A a B b stay (step {mid} {after} {m} p s) = step (same_goes F G A a mid m stay p) (same_stride F G mid B m b stay s)

same_halts : (F G : List ℕ → Told) (A : Agenda) (a b : Point) (stop : Stop) → FilesStay F G → Halts G A a b stop → Halts F A a b stop
same_halts F G A a b (Refused r) stay (B, left, p) = (B, left, same_goes F G A a B b stay p)
same_halts F G A a b (SourceFault i) stay (B, left, p) = (B, left, same_goes F G A a B b stay p)
same_halts F G A a b SinkFault stay h = tt
same_halts F G A a b NoMemory stay h = tt

pub same_ends : (T : Type 0) (F G : List ℕ → Told) (A B : Agenda) (a b : Point) (r : Result T Stop) → FilesStay F G → Ends G A a B b r → Ends F A a B b r
same_ends T F G A B a b (Ok x) stay p = same_goes F G A a B b stay p
same_ends T F G A B a b (Err stop) stay h = same_halts F G A a b stop stay h

-- ---- one after another

pub goes_on : (F : List ℕ → Told) (A B : Agenda) (a b : Point) (C : Agenda) (c : Point) → Goes F A a B b → Goes F B b C c → Goes F A a C c
goes_on F A B a b C c p start = p
goes_on F A B a b C c p (step {mid} {after} {m} q s) = step (goes_on F A B a b mid m p q) s

pub then_halts : (F : List ℕ → Told) (A B : Agenda) (a b c : Point) (stop : Stop) → Goes F A a B b → Halts F B b c stop → Halts F A a c stop
then_halts F A B a b c (Refused r) p (C, left, q) = (C, left, goes_on F A B a b C c p q)
then_halts F A B a b c (SourceFault i) p (C, left, q) = (C, left, goes_on F A B a b C c p q)
then_halts F A B a b c SinkFault p h = tt
then_halts F A B a b c NoMemory p h = tt

pub then_ends : (T : Type 0) (F : List ℕ → Told) (A B C : Agenda) (a b c : Point) (r : Result T Stop) → Goes F A a B b → Ends F B b C c r → Ends F A a C c r
then_ends T F A B C a b c (Ok x) p q = goes_on F A B a b C c p q
then_ends T F A B C a b c (Err stop) p h = then_halts F A B a b c stop p h

pub halts_before : (F : List ℕ → Told) (A q : Agenda) (a b : Point) (stop : Stop) → Halts F A a b stop → Halts F (A ++ q) a b stop
halts_before F A q a b (Refused r) (B, left, p) = (B ++ q, left_before B q left, goes_before F A q a B b p)
halts_before F A q a b (SourceFault i) (B, left, p) = (B ++ q, left_before B q left, goes_before F A q a B b p)
halts_before F A q a b SinkFault h = tt
halts_before F A q a b NoMemory h = tt

-- a part that ends goes on with the rest
pub ends_before : (T : Type 0) (F : List ℕ → Told) (A q : Agenda) (a b : Point) (r : Result T Stop) → Ends F A a [] b r → Ends F (A ++ q) a q b r
ends_before T F A q a b (Ok x) p = goes_before F A q a [] b p
ends_before T F A q a b (Err stop) h = halts_before F A q a b stop h

-- a run that went so far may halt there for any cause where something is left
pub halts_there : (F : List ℕ → Told) (A B : Agenda) (a b : Point) (stop : Stop) → IsLeft B → Goes F A a B b → Halts F A a b stop
halts_there F A B a b (Refused r) left p = (B, left, p)
halts_there F A B a b (SourceFault i) left p = (B, left, p)
halts_there F A B a b SinkFault left p = tt
halts_there F A B a b NoMemory left p = tt

-- and a fault of the sink, or want of memory, wherever it is
pub halts_by_sink : (F : List ℕ → Told) (A : Agenda) (a b : Point) (stop : Stop) → IsOfSink stop → Halts F A a b stop
halts_by_sink F A a b (Refused r) h = absurd h
halts_by_sink F A a b (SourceFault i) h = absurd h
halts_by_sink F A a b SinkFault h = tt
halts_by_sink F A a b NoMemory h = tt

-- ---- single steps

pub one_step : (F : List ℕ → Told) (A B : Agenda) (a b : Point) → Stride F A a B b → Goes F A a B b
one_step F A B a b s = step start s

pub same_names : (a b : Point) → b.state ≡ a.state → OnlyNames a.state b.state
same_names a b same =
    subst (OnlyNames a.state) (sym same) (record { env = refl; back = record { more = []; names = sym (append-nil a.state.back.names); hier = refl; tables = refl; section = refl; made = refl }; entries = refl })

-- names are numbered, or nothing is done
pub only_names : (F : List ℕ → Told) (A : Agenda) (a b : Point) → OnlyNames a.state b.state → IsSilent a b → Goes F A a A b
only_names F A a b h s = step start (numbers h s)

pub nothing_done : (F : List ℕ → Told) (A : Agenda) (a b : Point) → b.state ≡ a.state → IsSilent a b → Goes F A a A b
nothing_done F A a b same s = only_names F A a b (same_names a b same) s

pub no_step : (F : List ℕ → Told) (A : Agenda) (a : Point) → Goes F A a A a
no_step F A a = start

-- refused, where names may be more
pub refused_there : (F : List ℕ → Told) (A : Agenda) (a b : Point) (stop : Stop) → IsLeft A → OnlyNames a.state b.state → IsSilent a b → Halts F A a b stop
refused_there F A a b stop left h s = halts_there F A A a b stop left (only_names F A a b h s)

told_later : (a m b : Point) (e : Event) → IsSilent a m → Tells m b e → Tells a b e
told_later a m b e s w = record { text = w.text; told = w.told; written = record { lines = rw (sym s.lines) w.written.lines; out = rw (sym s.out) w.written.out } }

-- a command that was taken, and then told or cut short
pub taken_ends : (F : List ℕ → Told) (ts : Agenda) (a m b : Point) (s : Span) (c : Act) (e : Event) (r : Result (Unit {0}) Stop)
    → Takes a.state c e m.state → IsSilent a m → b.state ≡ m.state → OnOk r (Tells m b e) → IfErr r IsOfSink → Ends F (command (sentence s c) ∷ ts) a ts b r
taken_ends F ts a m b s c e (Ok x) t n same told cut = step start (takes s c e (rw same t) (told_later a m b e n told))
taken_ends F ts a m b s c e (Err stop) t n same told cut = halts_by_sink F (command (sentence s c) ∷ ts) a b stop cut

-- so is one whose required source was compiled
pub required_ends : (F : List ℕ → Told) (ts : Agenda) (a m b : Point) (w : Word) (e : Event) (r : Result (Unit {0}) Stop)
    → Takes a.state (require w) e m.state → IsSilent a m → b.state ≡ m.state → OnOk r (Tells m b e) → IfErr r IsOfSink → Ends F (required w ∷ ts) a ts b r
required_ends F ts a m b w e (Ok x) t n same told cut = step start (takes_required w e (rw same t) (told_later a m b e n told))
required_ends F ts a m b w e (Err stop) t n same told cut = halts_by_sink F (required w ∷ ts) a b stop cut

-- an entry of a library that was taken, with its file noted
pub loaded_noted : (F : List ℕ → Told) (ts : Agenda) (a m b : Point) (e : Entry)
    → GoesOn a.state m.state (e ∷ []) → GrowsBy e.head (plains e.decls.items) a.state.env a.state.back m.state.back → LeavesBy e.head (plains e.decls.items) a.state.back.hier a.state.back.section m.state.back.section → b.state ≡ m.state → IsSilent a b → Goes F (entry e ∷ ts) a ts b
loaded_noted F ts a m b e g h l same s = step start (loads e (rw same (record { goes_on = g; grows = h; leaves = l })) s)

-- a declaration of a core text that was taken, and then told
pub added_told : (F : List ℕ → Told) (ts : Agenda) (a m b : Point) (d : Decl) (e : Entry) (n : NameId)
    → IsCoreEntry d e → name_of_decl d ≡ n.0 → GoesOn a.state m.state (e ∷ []) → GrowsBy e.head (plains e.decls.items) a.state.env a.state.back m.state.back
    → LeavesBy e.head (plains e.decls.items) a.state.back.hier a.state.back.section m.state.back.section
    → IsSilent a m → b.state ≡ m.state → Tells m b (event.Core n) → Goes F (declaration d ∷ ts) a ts b
added_told F ts a m b d e n is named g h l s same w =
    step start (adds d e n is named (rw same (record { goes_on = g; grows = h; leaves = l })) (told_later a m b (event.Core n) s w))

-- a library whose entries were taken, and then told or cut short
pub library_ends : (F : List ℕ → Told) (A ts : Agenda) (a m b : Point) (name : List ℕ) (n : ℕ) (r : Result (Unit {0}) Stop)
    → Goes F A a (library name n ∷ ts) m → b.state ≡ m.state → OnOk r (Writes m b (library_line name n) 1) → IfErr r IsOfSink → Ends F A a ts b r
library_ends F A ts a m b name n (Ok x) went same told cut = step went (lists name n same told)
library_ends F A ts a m b name n (Err stop) went same told cut = halts_by_sink F A a b stop cut

-- files that were compiled, with their number told
pub accepted_told : (F : List ℕ → Told) (A : Agenda) (a m b : Point) → Goes F A a [] m → b.state ≡ m.state → b.lines ≡ m.lines → b.out ≡ grown m.out (accepted_line m.lines) → IsAccepted F A a b
accepted_told F A a m b g same lines out = record { whole = m; went = g; state = same; lines = lines; out = out }

-- refused, where nothing was done
pub refused_same : (F : List ℕ → Told) (A : Agenda) (a b : Point) (stop : Stop) → IsLeft A → b.state ≡ a.state → IsSilent a b → Halts F A a b stop
refused_same F A a b stop left same s = refused_there F A a b stop left (same_names a b same) s

-- what was done before on files that stayed
pub then_same_ends : (T : Type 0) (F G : List ℕ → Told) (A B C : Agenda) (a b c : Point) (r : Result T Stop)
    → FilesStay F G → Goes F A a B b → Ends G B b C c r → Ends F A a C c r
then_same_ends T F G A B C a b c r stay p q = then_ends T F A B C a b c r p (same_ends T F G B C b c r stay q)

pub then_same_goes : (F G : List ℕ → Told) (A B C : Agenda) (a b c : Point)
    → FilesStay F G → Goes F A a B b → Goes G B b C c → Goes F A a C c
then_same_goes F G A B C a b c stay p q = goes_on F A B a b C c p (same_goes F G B b C c stay q)

pub then_same_halts : (F G : List ℕ → Told) (A B : Agenda) (a b c : Point) (stop : Stop)
    → FilesStay F G → Goes F A a B b → Halts G B b c stop → Halts F A a c stop
then_same_halts F G A B a b c stop stay p h = then_halts F A B a b c stop p (same_halts F G B b c stop stay h)

-- a source of the command line that was opened
pub opened_source : (F : List ℕ → Told) (ts : Agenda) (a b : Point) (name bytes : List ℕ) (i : ℕ) (r : Reading)
    → is_library name ≡ false → TellsOnly (F name) bytes → OnlyNames a.state b.state → IsSilent a b → IsReading i bytes b.state.back.names None r
    → Goes F (file name ∷ ts) a (reading_then r ts) b
opened_source F ts a b name bytes i r l told names silent is =
    subst (λ w. Goes F (file name ∷ ts) a (commands_then (sentences (reverse r.rest.items)) (source_end ∷ required_then w ts)) b) (sym is.required_is)
    (step start (opens ts name bytes i (sentences (reverse r.rest.items)) l (record { told = told; names = names; silent = silent }) is.source))

-- a source that a command required
pub opened_required : (F : List ℕ → Told) (ts : Agenda) (a b : Point) (s : Span) (w : Word) (r : Reading)
    → IsRequired F (required_source a.state w) b.state.back.names w r → OnlyNames a.state b.state → IsSilent a b
    → Goes F (command (sentence s (require w)) ∷ ts) a (reading_then r ts) b
opened_required F ts a b s w r is names silent =
    subst (λ v. Goes F (command (sentence s (require w)) ∷ ts) a (commands_then (sentences (reverse r.rest.items)) (source_end ∷ required_then v ts)) b) (sym is.reading.required_is)
    (step start (opens_required ts s w is.bytes is.number (sentences (reverse r.rest.items)) (record { told = is.told; names = names; silent = silent }) is.reading.source))

-- a source that has a command left begins with it
pub next_command : (r s : Reading) (cs : List Command) (c : Command) (ts : Agenda)
    → r.rest.items ≡ cs ++ (c ∷ []) → s.rest.items ≡ cs → s.required ≡ r.required → reading_then r ts ≡ command (view c) ∷ reading_then s ts
next_command r s cs c ts is left same =
    ap (λ x. commands_then (sentences (reverse x)) (source_end ∷ required_then r.required ts)) is
    ∙ ap (λ x. commands_then (sentences x) (source_end ∷ required_then r.required ts)) (reverse-append cs (c ∷ []))
    ∙ ap (λ x. command (view c) ∷ commands_then (sentences (reverse x)) (source_end ∷ required_then r.required ts)) (sym left)
    ∙ ap (λ x. command (view c) ∷ commands_then (sentences (reverse s.rest.items)) (source_end ∷ required_then x ts)) (sym same)

-- and one that has none with its end
pub no_command : (r : Reading) (ts : Agenda) → r.rest.items ≡ [] → reading_then r ts ≡ (source_end ∷ required_then r.required []) ++ ts
no_command r ts none = ap (λ x. commands_then (sentences (reverse x)) (source_end ∷ required_then r.required ts)) none ∙ ap (λ x. source_end ∷ x) (required_first r.required)
  where
    required_first : (w : Option Word) → required_then w ts ≡ required_then w [] ++ ts
    required_first None = refl
    required_first (Some w) = refl

-- all that is told of a file is what was read of it
pub whole_tells : (t : Told) (most : ℕ) (read : Vec ℕ) → WholeGives t most (Ok (Bytes read)) → TellsOnly t read.items
whole_tells Untold most read h = tt
whole_tells Missing most read h = h
whole_tells (Holds bytes) most read h = sym h.0

-- ---- turns: r is a source whose next command is c, s what is left of it, and rs the stack below

pub turned : (T : Type 0) (F : List ℕ → Told) (rs rs' : List Reading) (r s : Reading) (cs : List Command) (c : Command) (a b : Point) (e : Result T Stop)
    → r.rest.items ≡ cs ++ (c ∷ []) → s.rest.items ≡ cs → s.required ≡ r.required → rs' ≡ rs ++ (s ∷ [])
    → Ends F (command (view c) ∷ []) a [] b e → Ends F (reading_then r (stack_then rs [])) a (stack_then rs' []) b e
turned T F rs rs' r s cs c a b e is left same pushed h =
    rw (next_command r s cs c (stack_then rs []) is left same, pushed, stack_last rs s [])
    (ends_before T F (command (view c) ∷ []) (reading_then s (stack_then rs [])) a b e h)

-- its required source is put above it
pub turned_to : (T : Type 0) (F : List ℕ → Told) (rs rs' rs'' : List Reading) (r s q : Reading) (cs : List Command) (c : Command) (w : Word) (a b : Point) (x : T)
    → r.rest.items ≡ cs ++ (c ∷ []) → s.rest.items ≡ cs → s.required ≡ r.required → rs' ≡ rs ++ (s ∷ []) → rs'' ≡ rs' ++ (q ∷ [])
    → view c ≡ sentence c.span (require w) → IsRequired F (required_source a.state w) b.state.back.names w q → OnlyNames a.state b.state → IsSilent a b
    → Ends F (reading_then r (stack_then rs [])) a (stack_then rs'' []) b (Ok x)
turned_to T F rs rs' rs'' r s q cs c w a b x is left same pushed on_top asks wanted names silent =
    rw (next_command r s cs c (stack_then rs []) is left same, asks, on_top, stack_last rs' q [], pushed, stack_last rs s [])
    (opened_required F (reading_then s (stack_then rs [])) a b c.span w q wanted names silent)

-- it is refused
pub not_turned : (F : List ℕ → Told) (rs : List Reading) (r s : Reading) (cs : List Command) (c : Command) (a b : Point) (stop : Stop)
    → r.rest.items ≡ cs ++ (c ∷ []) → s.rest.items ≡ cs → s.required ≡ r.required → OnlyNames a.state b.state → IsSilent a b
    → Halts F (reading_then r (stack_then rs [])) a b stop
not_turned F rs r s cs c a b stop is left same names silent =
    rw (next_command r s cs c (stack_then rs []) is left same) (refused_there F (command (view c) ∷ reading_then s (stack_then rs [])) a b stop tt names silent)

-- the source that it requires was compiled before
pub passed : (F : List ℕ → Told) (c : Command) (w : Word) (a m b : Point) (e : Result (Unit {0}) Stop)
    → view c ≡ sentence c.span (require w) → OnlyNames a.state m.state → IsSilent a m → Ends F (required w ∷ []) m [] b e → Ends F (command (view c) ∷ []) a [] b e
passed F c w a m b e asks names silent h =
    rw asks
    (then_ends (Unit {0}) F (command (sentence c.span (require w)) ∷ []) (required w ∷ []) [] a m b e
    (step (step start (numbers names silent)) (passes c.span w refl (record { lines = refl; out = refl }))) h)

-- a source without commands ends
pub ended : (F : List ℕ → Told) (rs : List Reading) (r : Reading) (a b : Point) (e : Result (Unit {0}) Stop)
    → r.rest.items ≡ [] → Ends F (source_end ∷ required_then r.required []) a [] b e → Ends F (reading_then r (stack_then rs [])) a (stack_then rs []) b e
ended F rs r a b e none h =
    rw (no_command r (stack_then rs []) none) (ends_before (Unit {0}) F (source_end ∷ required_then r.required []) (stack_then rs []) a b e h)

no_section : {A : Type 0} (o : Option A) → is_some o ≡ false → o ≡ None
no_section None h = refl
no_section (Some x) h = absurd (true≢false h)

-- a source ends outside of sections, which no command required
pub ends_alone : (F : List ℕ → Told) (r : Option Word) (a b : Point)
    → r ≡ None → is_some a.state.back.section ≡ false → b.state ≡ a.state → IsSilent a b → Goes F (source_end ∷ required_then r []) a [] b
ends_alone F r a b none out same silent = rw none (step start (closes (no_section a.state.back.section out) same silent))

-- and one that a command required
pub ends_required : (F : List ℕ → Told) (r : Option Word) (w : Word) (a m b : Point) (e : Result (Unit {0}) Stop)
    → r ≡ Some w → is_some a.state.back.section ≡ false → m.state ≡ a.state → IsSilent a m → Ends F (required w ∷ []) m [] b e
    → Ends F (source_end ∷ required_then r []) a [] b e
ends_required F r w a m b e is out same silent h =
    rw is
    (then_ends (Unit {0}) F (source_end ∷ required w ∷ []) (required w ∷ []) [] a m b e
    (step start (closes (no_section a.state.back.section out) same silent)) h)

-- ---- loops

pub next_file : {A : Type 0} (f : A → List ℕ) (ns : List A) (i : ℕ) (n : A) (t : List ℕ) → i < length ns → n ≡ slice_index_or ns i n → t ≡ f n
    → files_then (map f (drop i ns)) [] ≡ file t ∷ files_then (map f (drop (i + 1) ns)) []
next_file f ns i n t l is same =
    ap (λ x. files_then (map f x) []) (drop_more ns i n l) ∙ ap (λ x. file x ∷ files_then (map f (drop (i + 1) ns)) []) (ap f (sym is) ∙ sym same)

pub no_file : {A : Type 0} (f : A → List ℕ) (ns : List A) (i : ℕ) → length ns ≤ i → files_then (map f (drop i ns)) [] ≡ []
no_file f ns i l = ap (λ x. files_then (map f x) []) (drop_all i ns l)

-- what an answer has that is there
pub where_ok : {A E : Type 0} (r : Result A E) (P : Type 0) → P → OnOk r P
where_ok (Ok x) P p = p
where_ok (Err e) P p = tt

-- the source of a stack that is read next
pub turn_begins : (rs rs' : List Reading) (r : Reading) → rs ≡ rs' ++ (r ∷ []) → stack_then rs [] ≡ reading_then r (stack_then rs' [])
turn_begins rs rs' r is = ap (λ x. stack_then x []) is ∙ stack_last rs' r []

pub stack_of_one : (rs xs : List Reading) (r : Reading) → rs ≡ xs ++ (r ∷ []) → xs ≡ [] → reading_then r [] ≡ stack_then rs []
stack_of_one rs xs r is none = sym (turn_begins rs xs r is ∙ ap (λ x. reading_then r (stack_then x [])) none)

pub told_later_on : (F G : List ℕ → Told) (n bytes : List ℕ) → FilesStay F G → TellsOnly (F n) bytes → TellsOnly (G n) bytes
told_later_on F G n bytes stay h = subst (λ t. TellsOnly t bytes) (sym (stay n)) h

-- where no source fails, no count has risen
pub no_fault : {A : Type 0} (e : Result A Stop) (P : Type 0) → IfErr e (λ stop. IsSourceFault stop → ⊥) → IfErr e (λ stop. IsSourceFault stop → P)
no_fault (Ok x) P h = h
no_fault (Err stop) P h = λ is. absurd (h is)

pub some_required : {A : Type 0} (o : Option A) (x : A) (P : A → Type 0) → o ≡ Some x → IfSome o P → P x
some_required o x P is h = subst (λ v. IfSome v P) is h

-- ---- libraries and core texts

pub opened_library : (F : List ℕ → Told) (ts : Agenda) (a b : Point) (name bytes : List ℕ) (es : List Entry) (n : ℕ)
    → is_library name ≡ true → TellsOnly (F name) bytes → OnlyNames a.state b.state → IsSilent a b → (a.state.back.names ≡ [] → IsLibrary bytes b.state.back.names es)
    → n ≡ length es → Goes F (file name ∷ ts) a (entries_then es (library name n ∷ ts)) b
opened_library F ts a b name bytes es n l told names silent is count =
    subst (λ k. Goes F (file name ∷ ts) a (entries_then es (library name k ∷ ts)) b) (sym count)
    (step start (opens_library ts name bytes es l (record { told = told; names = names; silent = silent }) is))

pub opened_core : (F : List ℕ → Told) (ts : Agenda) (a b : Point) (name bytes : List ℕ) (ds : List Decl)
    → TellsOnly (F name) bytes → OnlyNames a.state b.state → IsSilent a b → Goes F (core_text name ∷ ts) a (declarations_then ds ts) b
opened_core F ts a b name bytes ds told names silent = step start (opens_core ts name bytes ds (record { told = told; names = names; silent = silent }))

-- the next entry or declaration of what is left
pub next_entry : {A : Type 0} (f : A → Entry) (xs ys : List A) (x : A) (ts : Agenda) → xs ≡ x ∷ ys → entries_then (map f xs) ts ≡ entry (f x) ∷ entries_then (map f ys) ts
next_entry f xs ys x ts is = ap (λ z. entries_then (map f z) ts) is

pub next_declaration : {A : Type 0} (f : A → Decl) (xs ys : List A) (x : A) (ts : Agenda)
    → xs ≡ x ∷ ys → declarations_then (map f xs) ts ≡ declaration (f x) ∷ declarations_then (map f ys) ts
next_declaration f xs ys x ts is = ap (λ z. declarations_then (map f z) ts) is

pub no_entry : {A : Type 0} (f : A → Entry) (xs : List A) (ts : Agenda) → xs ≡ [] → entries_then (map f xs) ts ≡ ts
no_entry f xs ts none = ap (λ z. entries_then (map f z) ts) none

pub no_declaration : {A : Type 0} (f : A → Decl) (xs : List A) (ts : Agenda) → xs ≡ [] → declarations_then (map f xs) ts ≡ ts
no_declaration f xs ts none = ap (λ z. declarations_then (map f z) ts) none
