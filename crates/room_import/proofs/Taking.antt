-- What a reader took, by the clauses of `csv`.
use Rattle.std.proofs.Common.{ℕ, ◌≡◌, Bor, true, false, List, Option, Some, ◌∙◌}
use Rattle.csv.specs.Reading.{ReadRecord, Ready, TookRecord, default_config, is_flexible}
use Rattle.csv.specs.{Reading.pending_of, Records.AllText}
use Rattle.room_import.specs.declared.rows.NextRow.TheVariants.{End, NotText, Text}
use Rattle.room_import.specs.Rows.{ReadsNextRow, ByteReader, ReadsRow, rows_from, unread}
use Rattle.room_import.proofs.{Next.{LeavesRows, no_row_read, row_read}, Utf8.row_fails}
use Rattle.room_import.proofs.Utf8.{row_passes}
use Rattle.csv.specs.declared.reader.Trim.TheVariants as trim

abbrev known : Bor (List ℕ) → Option (List ℕ)
known bytes = Some bytes.now

now_unread : (after : ByteReader) (rest : List ℕ) → after.bom_checked ≡ true
    → pending_of (known after.rdr) after ≡ Some rest → unread after ≡ Some rest
now_unread after rest checked pending = rw checked pending

text_from : (before after : ByteReader) (row : List (List ℕ)) (bytes : List ℕ)
    → unread before ≡ Some bytes → after.bom_checked ≡ true
    → LeavesRows before.state bytes row after.state (pending_of (known after.rdr) after)
    → after.trim ≡ trim.None → Ready after → after.config ≡ default_config
    → is_flexible after ≡ true → AllText row → ReadsRow before after row Text
text_from before after row bytes left checked leaves trim ready config flexible text =
    let now = now_unread after leaves.0 checked leaves.1 in (
      rw (left, now) leaves.3,
      row_passes row text,
      (trim, ready, config, leaves.2, flexible, leaves.0, now),
    )

pub took_text : (before after : ByteReader) (row : List (List ℕ)) → ReadsNextRow before
    → Ready after → is_flexible after ≡ is_flexible before → ReadRecord known before after true row
    → AllText row → ReadsRow before after row Text
took_text before after row goes ready flexible read text =
    text_from before after row goes.5 goes.6 read.1
    (row_read before.state goes.5 (pending_of (known after.rdr) after) row after.state goes.3
    (rw (goes.2, goes.6) at read.0))
    (read.3 ∙ goes.0) ready (read.2 ∙ goes.2) (flexible ∙ goes.4) text

pub took_none : (before after : ByteReader) (row : List (List ℕ)) → ReadsNextRow before
    → ReadRecord known before after false row → ReadsRow before after row End
took_none before after row goes read =
    rw goes.6 (no_row_read before.state goes.5 (pending_of (known after.rdr) after) row after.state
    (rw (goes.2, goes.6) at read.0))

not_text_from : (before after : ByteReader) (row fields : List (List ℕ)) (bytes : List ℕ)
    → unread before ≡ Some bytes
    → LeavesRows before.state bytes row after.state (pending_of (known after.rdr) after)
    → ¬ (AllText row) → ReadsRow before after fields NotText
not_text_from before after row fields bytes left leaves isnt =
    (row, rows_from after.state (Some leaves.0), rw left leaves.3, row_fails row isnt)

pub took_not_text : (before after : ByteReader) (row fields : List (List ℕ)) → ReadsNextRow before
    → TookRecord known before after row → ¬ (AllText row) → ReadsRow before after fields NotText
took_not_text before after row fields goes took isnt =
    not_text_from before after row fields goes.5 goes.6
    (row_read before.state goes.5 (pending_of (known after.rdr) after) row after.state goes.3
    (rw (goes.2, goes.6) at took)) isnt
