-- The options with which a file is opened: pages in memory, and the number for salts (own).
use Rattle.std.specs.Prelude.{◌≡◌, ◌≤◌, ◌/◌, ℕ, [], ◌∷◌, max, min}
use Rattle.sqlite_pager.specs.declared.pager.Options.{Options}
use Rattle.std.specs.Hash.DefaultHasher.{finish, write}
use Rattle.std.specs.RandomState.{initial_hasher}
use Rattle.std.specs.declared.random_state.RandomState.{RandomState}

-- Of a file of so many bytes: a page for each 4,096, at least 2,000 and at most 32,768.
abbrev pub kept_pages : ℕ → ℕ
kept_pages bytes = max 2000 (min 32768 (bytes / 4096))

-- a number within these limits
abbrev pub IsWithin : ℕ → Type 0
IsWithin pages = (2000 ≤ pages) × (pages ≤ 32768)

-- So many pages that were read are kept in memory, and 2,000 that were written before they go to the
-- log, which is copied into the file once it has 1,000 frames.
abbrev pub HasUsual : ℕ → Options → Type 0
HasUsual pages options = (options.cache_pages ≡ pages) × (options.spill_pages ≡ 2000)
    × (options.checkpoint_frames ≡ 1000)

-- The number is what a hasher with some keys makes of one byte, which is 0.
abbrev pub IsHashed : ℕ → Type 0
IsHashed number = (keys : RandomState) × (number ≡ finish (write (initial_hasher keys) (0 ∷ [])))
