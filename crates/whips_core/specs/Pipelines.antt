-- A pipeline before the first event.
use Rattle.std.specs.Prelude.{List, [], replicate}
use Rattle.whips_lists.specs.Lists.{map_with_place}
use Rattle.whips_setup.specs.Setups.{SetupData}
use Rattle.whips_merge.specs.Merging.{new_merge}
use Rattle.whips_store.specs.Stores.{StoreState}
use Rattle.whips_contents.specs.Contents.{LoadedSource, LoadedPipeline, new_loaded_manager}

-- The pipeline of a setup over these sources and this store, before the first event.
abbrev pub started : SetupData → List LoadedSource → StoreState → LoadedPipeline
started s sources store = record {
  sources = sources;
  numbering = [];
  managers = map_with_place new_loaded_manager 0 s.views;
  announcements = [];
  merge = new_merge s;
  store = store;
  earlier_cuts = [];
  cut = replicate s.sources 0;
  target_cut = replicate s.sources 0;
}
