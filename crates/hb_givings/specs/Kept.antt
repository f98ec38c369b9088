-- What the fields of the givings keep.
use Rattle.std.specs.Prelude.{◌≡◌, ℕ, ◌<◌, ◌≤◌, ◌^◌, List, None, length, take, slice_index_or}
use Rattle.hb_sets.specs.Set.{empty}
use Rattle.hb_givings.specs.declared.records.Tally.{Tally}
use Rattle.hb_givings.specs.declared.givings.Givings.TheInside.{Inside}
use Rattle.hb_givings.specs.Givings.{Given, ungiven, givings_at, carriers_of}
use Rattle.hb_givings.specs.Lookups.{summary, Sources, AreSummaries, AreSources}

-- in place of what isn't there
abbrev pub untallied : Tally
untallied = record { before = None; sources = 0 }

-- tally i says what its carrier had by the first i givings, and how many entries of the sources are theirs
pub record IsTally (gs : List Given) (sources : Sources) (tallies : List Tally) (i : ℕ) : Type 0 where
  pub before_is : (slice_index_or tallies i untallied).before ≡ summary (givings_at (take i gs) (slice_index_or gs i ungiven).carrier)
  pub within : (slice_index_or tallies i untallied).sources ≤ length sources
  pub later : (j : ℕ) → i < j → j < length gs → (slice_index_or tallies i untallied).sources ≤ (slice_index_or tallies j untallied).sources
  pub sources_are : AreSources (take i gs) (take (slice_index_or tallies i untallied).sources sources)

-- there is a tally for each giving
pub record AreTallied (gs : List Given) (sources : Sources) (tallies : List Tally) : Type 0 where
  pub each : length tallies ≡ length gs
  pub tally : (i : ℕ) → i < length gs → IsTally gs sources tallies i

pub record IsKept (g : Inside) : Type 0 where
  pub few : length g.instances.items < 2 ^ 32
  pub none : g.nothing ≡ empty
  pub carried : g.carriers.items ≡ carriers_of g.instances.items
  pub summed : AreSummaries g.instances.items g.summaries.entries
  pub sourced : AreSources g.instances.items g.sources.entries
  pub tallied : AreTallied g.instances.items g.sources.entries g.tallies.items
