-- The path of a packed chain, hop by hop.
use Rattle.std.specs.Prelude.{None, Some}
use Prim.Native.Nat.{ℕ, ◌+◌, ◌≤◌}
use mathlib.Core.Path.{◌≡◌, refl, sym, ap, ◌∙◌}
use mathlib.Core.List.{List, [], ◌∷◌, ◌++◌, append-nil, append_assoc}
use native.Mathlib.Omega.{arith}
use lib.IntN.{ℤ, pos, nat_abs}
use lib.ListN.{length, length-append}
use lib.Seq.{length-take-le}
use Rattle.register.specs.declared.Sizes.{Sizes}
use Rattle.register.specs.declared.cells.Cell.{Cell}
use Rattle.chain.specs.Reading.{Reading}
use Rattle.chain.specs.Word.{field_cell, read_of, read_cell}
use Rattle.chain_path.specs.declared.Hop.{Hop}
use Rattle.chain_path.specs.declared.Path.{Path}
use Rattle.chain_path.specs.Path.{path, path_at_record, hops_of, HoldsPath}

-- the hops noted, and those that the rest of a word adds from reading x on, are the whole path
pub record Walking (s : Sizes) (cells : List Cell) (goal : List Hop) (rest : List ℕ) (x : Reading) (p : Path) : Type 0 where
  pub listed : hops_of p ++ path s cells x rest ≡ goal
  pub room : p.count + length rest ≤ 16
  pub holds : HoldsPath p (hops_of p)

pub holds_count : {p : Path} {hs : List Hop} → HoldsPath p hs → length hs ≡ p.count
holds_count {p} h = ap length (sym h.hops_are) ∙ length-take-le p.count p.hops (omega (arith, p.fits, h.places))

-- the same of the hops that it has
pub holds_own : {p : Path} {hs : List Hop} → HoldsPath p hs → HoldsPath p (hops_of p)
holds_own h = record { hops_are = refl; places = h.places; lettered = h.lettered }

-- what is read of the cell that is looked at
pub field-read : (s : Sizes) (cells : List Cell) (u f : ℕ) {c : Cell} → c ≡ field_cell s cells u f → read_of c ≡ read_cell s cells u f
unfolding read_cell
field-read s cells u f e = ap read_of e

path_missing : (s : Sizes) (cells : List Cell) (w : List ℕ) → path s cells None w ≡ []
unfolding path
path_missing s cells [] = refl
path_missing s cells (f ∷ w) = refl

-- the next hop: its record, its field, its cell, and the path behind it
path-next : (s : Sizes) (cells : List Cell) {x : Reading} {z : ℤ} {k f : ℕ} {c : Cell} (w : List ℕ) → x ≡ Some z → k ≡ nat_abs z → c ≡ field_cell s cells k f
    → path s cells x (f ∷ w) ≡ record { u = k; field = f; cell = c } ∷ path s cells (read_of c) w
unfolding path read_cell
path-next s cells w e q r = rw (e, ← q, r) refl

module _ {s : Sizes} {cells : List Cell} where
  pub walking_first : {p : Path} (w : List ℕ) (u : ℕ) → HoldsPath p [] → length w ≤ 16 → Walking s cells (path_at_record s cells w u) w (Some (pos u)) p
  unfolding path_at_record
  walking_first w u h short =
      record {
        listed = ap (λ (l : List Hop). l ++ path s cells (Some (pos u)) w) h.hops_are;
        room = omega (arith, short, holds_count h);
        holds = holds_own h;
      }

  module _ {goal : List Hop} {x : Reading} {w : List ℕ} {p : Path} (h : Walking s cells goal w x p) where
    -- one hop on
    pub walking_next : {z : ℤ} {k f : ℕ} {c : Cell} {y : Reading} {r : List ℕ} {q : Path} → w ≡ f ∷ r → x ≡ Some z → k ≡ nat_abs z
        → c ≡ field_cell s cells k f → y ≡ read_of c → HoldsPath q (hops_of p ++ record { u = k; field = f; cell = c } ∷ []) → Walking s cells goal r y q
    walking_next {k = k} {f} {c} {y} {r} {q} split e n d o more =
        let hop : Hop = record { u = k; field = f; cell = c } in
        let long = ap length split in
        let behind = ap (path s cells x) split ∙ path-next s cells r e n d ∙ ap (λ (y : Reading). hop ∷ path s cells y r) (sym o) in
        record {
          listed = ap (λ (l : List Hop). l ++ path s cells y r) more.hops_are ∙ append_assoc (hops_of p) (hop ∷ []) (path s cells y r)
              ∙ ap (λ (l : List Hop). hops_of p ++ l) (sym behind) ∙ h.listed;
          room = omega (arith, h.room, long, holds_count more, holds_count h.holds, length-append (hops_of p) (hop ∷ []));
          holds = holds_own more;
        }

    -- the end: no hop is left to add
    walking_end : path s cells x w ≡ [] → HoldsPath p goal
    walking_end e =
        record {
          hops_are = sym (append-nil (hops_of p)) ∙ ap (λ (l : List Hop). hops_of p ++ l) (sym e) ∙ h.listed;
          places = h.holds.places;
          lettered = h.holds.lettered;
        }

    pub walking_last : w ≡ [] → HoldsPath p goal
    unfolding path
    walking_last e = walking_end (ap (path s cells x) e)

    pub walking_missing : x ≡ None → HoldsPath p goal
    walking_missing e = walking_end (ap (λ (x : Reading). path s cells x w) e ∙ path_missing s cells w)
