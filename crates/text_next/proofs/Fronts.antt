-- The first line of a text, and the lines behind it.
use Prim.Native.Nat.{ℕ, ◌+◌, ◌-◌, ◌≤◌, ◌<◌}
use mathlib.Core.Path.{◌≡◌, sym, ap, ap₂, ◌∙◌}
use mathlib.Core.List.{List, [], ◌∷◌, ◌++◌, append-nil}
use mathlib.Core.Option.{none}
use native.Mathlib.Omega.{arith}
use native.Mathlib.Decide.{dec_lt}
use native.Mathlib.Numerals.{add-one}
use borrow.Author.Tests.{eqb-true, not-false, lt-ltb, le-ltb}
use lib.ListN.{length, get_or, take, drop, length-drop, drop_of_length-le}
use lib.Seq.{drop-cons, take-append_seam, length-take-le}
use Rattle.register.specs.declared.Sizes.{Sizes}
use Rattle.text_numerals.proofs.Spans.{starts-within, span-text, span-every, span-behind}
use Rattle.text_syntax.specs.Lexing.{tokens}
use Rattle.text_syntax.specs.Grammar.{any_form, line_form}
use Rattle.text_rules.specs.Text.{is_within, Piece, ended, cut, piece_form, lines}
use Rattle.text_rules.specs.LineRead.{no_form}
use Rattle.text_rules.proofs.Pieces.{lines-ended, lines_cut}
use Rattle.text_codes.specs.Codes.{Roomy}
use Rattle.text_lines.specs.Line.{LineAt, no_parts}
use Rattle.text_lines.specs.declared.line.LineParts.{LineParts}
use Rattle.text_next.specs.Front.{line_bytes, first_form, CodeRoom, LineNext}

-- a first line with byte 10 behind it, and a last line without
first_ended : (t : List ℕ) → length (line_bytes t) < length t → lines t ≡ ended (line_bytes t) ∷ lines (drop (length (line_bytes t) + 1) t)
unfolding is_within
first_ended t h =
    let n = length (line_bytes t) in
    let ten : get_or t n 0 ≡ 10 = eqb-true (get_or t n 0) 10 (not-false _ (sym (starts-within is_within t n h) ∙ span-behind is_within t)) in
    let rest : drop n t ≡ 10 ∷ drop (n + 1) t = drop-cons t n 0 h ∙ ap₂ (λ (b i : ℕ). b ∷ drop i t) ten (sym (add-one n)) in
    ap lines (span-text is_within t ∙ ap (λ (l : List ℕ). line_bytes t ++ l) rest) ∙ lines-ended (line_bytes t) (drop (n + 1) t) (span-every is_within t)

first_cut : (b : ℕ) (t : List ℕ) → length (b ∷ t) ≤ length (line_bytes (b ∷ t)) → lines (b ∷ t) ≡ cut (b ∷ t) ∷ []
first_cut b t h =
    let whole : line_bytes (b ∷ t) ≡ b ∷ t = sym (append-nil (line_bytes (b ∷ t))) ∙ sym (span-text is_within (b ∷ t) ∙ ap (λ (l : List ℕ). line_bytes (b ∷ t) ++ l) (drop_of_length-le (b ∷ t) h)) in
    lines_cut b t (rw whole at (span-every is_within (b ∷ t)))

-- the form of the line at a place: none where the text ends, otherwise that of the part up to its byte 10
module _ (t : List ℕ) (at : ℕ) where
  pub first_past : length t ≤ at + length (line_bytes (drop at t)) → first_form (drop at t) ≡ none
  unfolding first_form
  first_past h = rw (le-ltb (length (line_bytes (drop at t))) (length (drop at t)) (omega (arith, length-drop at t)))

  pub first-within : (end : ℕ) → end ≡ at + length (line_bytes (drop at t)) → end < length t → first_form (drop at t) ≡ line_form (tokens (take (end - at) (drop at t)))
  unfolding first_form
  first-within end e h =
      let u = drop at t in
      let size : end - at ≡ length (line_bytes u) = omega (arith, e) in
      let part : take (length (line_bytes u)) u ≡ line_bytes u = ap (take (length (line_bytes u))) (span-text is_within u) ∙ take-append_seam (line_bytes u) (drop (length (line_bytes u)) u) in
      rw (lt-ltb (length (line_bytes u)) (length u) (omega (arith, length-drop at t, e)), size, part)

-- the lines of a text: its first line, by its form, and the lines behind it
pub lines-first : (b : ℕ) (t : List ℕ) → (p : Piece) × (piece_form p ≡ first_form (b ∷ t)) × (lines (b ∷ t) ≡ p ∷ lines (drop (length (line_bytes (b ∷ t)) + 1) (b ∷ t)))
unfolding first_form piece_form lines
lines-first b t = go (dec_lt (length (line_bytes (b ∷ t))) (length (b ∷ t)))
  where
    go : Dec (length (line_bytes (b ∷ t)) < length (b ∷ t)) → (p : Piece) × (piece_form p ≡ first_form (b ∷ t)) × (lines (b ∷ t) ≡ p ∷ lines (drop (length (line_bytes (b ∷ t)) + 1) (b ∷ t)))
    go (yes h) = (ended (line_bytes (b ∷ t)), rw (lt-ltb (length (line_bytes (b ∷ t))) (length (b ∷ t)) h), first_ended (b ∷ t) h)
    go (no h) =
        let past : length (b ∷ t) ≤ length (line_bytes (b ∷ t)) = omega arith in (
          cut (b ∷ t),
          rw (le-ltb (length (line_bytes (b ∷ t))) (length (b ∷ t)) past),
          first_cut b t past ∙ ap (λ (l : List ℕ). cut (b ∷ t) ∷ lines l) (sym (drop_of_length-le (b ∷ t) {i = length (line_bytes (b ∷ t)) + 1} (omega arith))),
        )

-- what is read of the line at a place, by the form of its part up to byte 10
module _ (s : Sizes) (t : List ℕ) (at end count : ℕ) (e : end ≡ at + length (line_bytes (drop at t))) (few : count ≤ at) where
  pub next-none : (a b : List ℕ) → length t ≤ end → LineNext s (first_form (drop at t)) end a b count (no_parts count)
  next-none a b h = record {
    reads = rw (first_past t at (omega (arith, e))) no_form;
    leaves = tt;
    more_codes = omega arith;
    few_codes = omega (arith, e);
  }

  part_length : end < length t → length (take (end - at) (drop at t)) ≡ end - at
  part_length h = length-take-le (end - at) (drop at t) (omega (arith, e, length-drop at t))

  pub next-roomy : (a : List ℕ) → end < length t → CodeRoom (length t) a → Roomy a (take (end - at) (drop at t)) 0 count
  next-roomy a h room = omega (arith, part_length h, e, room.room)

  pub next-line : (a b : List ℕ) (r : LineParts) → end < length t
      → LineAt s (take (end - at) (drop at t)) 0 (any_form (tokens (take (end - at) (drop at t)))) a b count count r
      → LineNext s (first_form (drop at t)) end a b count r
  unfolding line_form
  next-line a b r h l = record {
    reads = rw (first-within t at end e h) l.reads;
    leaves = l.leaves;
    more_codes = l.more_codes;
    few_codes = omega (arith, l.few_codes, part_length h, e);
  }
