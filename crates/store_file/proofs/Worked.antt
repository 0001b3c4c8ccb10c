-- Worked examples of the options of a file: what is kept in memory, and how long the log gets.
use Rattle.std.proofs.Common.{◌≡◌, ℕ}
use Rattle.sqlite_pager.specs.declared.pager.Options.{Options}
use Rattle.store_file.specs.FileOptions.{HasUsual}

module _ (pages : ℕ) (options : Options) (usual : HasUsual pages options) where
  so_many_are_kept : options.cache_pages ≡ pages
  so_many_are_kept = usual.0

  a_large_change_goes_to_the_log : options.spill_pages ≡ 2000
  a_large_change_goes_to_the_log = usual.1

  the_log_is_copied : options.checkpoint_frames ≡ 1000
  the_log_is_copied = usual.2
