-- The page has room for what is printed: the listing of a register of at most 100 cells, and a refusal.
use Prim.Native.Nat.{ℕ, ◌+◌, ◌*◌, ◌^◌, ◌≤◌, ◌<◌}
use mathlib.Core.List.{List}
use native.Mathlib.Omega.{arith}
use lib.ListN.{length, get_or, length-append}
use mir.Syntax.{w32}
use mir.Val.{SFits}
use Rattle.register.specs.Cells.{value_of}
use Rattle.register.specs.File.{width, cell_count, cell_index}
use Rattle.register.specs.Shape.{Limits}
use Rattle.register.specs.declared.Sizes.{Sizes}
use Rattle.register.specs.declared.cells.Cell.{Cell}
use Rattle.register.specs.declared.cells.Cell.TheVariants.{Missing}
use Rattle.print_page.proofs.Digits.{decimal-length, cell_length}
use Rattle.print_listing.specs.Listing.{header, field_text, record_line, listing, refused_line}
use Rattle.print_listing.specs.Room.{page_room}
use Rattle.print_listing.proofs.Rows.{row_length}

-- a number of at most 20 digits
abbrev pub Short : ℕ → Type 0
Short n = n < 10 ^ 20

header-length : (a b c d : ℕ) → Short a → Short b → Short c → Short d → length (header a b c d) ≤ 116
unfolding header
header-length a b c d ha hb hc hd =
    simp length-append (omega (arith, decimal-length 19 a ha, decimal-length 19 b hb, decimal-length 19 c hc, decimal-length 19 d hd))

module _ (s : Sizes) (cells : List Cell) (l : Limits s) (fit : (j : ℕ) → SFits w32 (value_of (get_or cells j Missing))) where
  record-length : (u : ℕ) → u < s.records → length (record_line s cells u) ≤ 21 + width s * 13
  unfolding record_line field_text
  record-length u h =
      let fields = row_length (field_text s cells u) 13 (width s) (λ f k. omega (arith, cell_length _ (fit (cell_index s u f)))) in
      simp length-append (omega (arith, decimal-length 19 u (omega (arith, l.records≤)), fields))

  pub listing-length : cell_count s ≤ 100 → (finished exchanges letters : ℕ) → Short finished → Short exchanges → Short letters
      → length (listing s cells finished exchanges letters) ≤ page_room
  unfolding listing cell_count
  listing-length few finished exchanges letters hf he hl =
      let first = header-length s.records finished exchanges letters (omega (arith, l.records≤)) hf he hl in
      let records = row_length (record_line s cells) (21 + width s * 13) s.records record-length in
      simp length-append (omega (arith, l.records≤, first, records))

pub refused-length : (n k : ℕ) → Short n → Short k → length (refused_line n k) ≤ page_room
unfolding refused_line
refused-length n k hn hk = simp length-append (omega (arith, decimal-length 19 n hn, decimal-length 19 k hk))
