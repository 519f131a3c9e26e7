-- Laws of what is put on the page.
use Prim.Native.Nat.{ℕ}
use mathlib.Core.Path.{◌≡◌, sym, ap, ◌∙◌}
use mathlib.Core.List.{List, [], ◌++◌, append-nil, append_assoc}
use native.Mathlib.Omega.{arith}
use lib.ListN.{length, take, length-append}
use Rattle.print_page.specs.Put.{PageRoom, PagePut}

-- room for two texts is room for the first, and behind it for the second
pub room-first : {at : ℕ} {a : List ℕ} (b : List ℕ) {page : List ℕ} → PageRoom at (a ++ b) page → PageRoom at a page
room-first {a = a} b h = record { fits = omega (arith, h.fits, length-append a b) }

pub room_next : {at m : ℕ} {a b page page' : List ℕ} → PageRoom at (a ++ b) page → PagePut at a page page' m → length page' ≡ length page → PageRoom m b page'
room_next {a = a} {b = b} h p l = record { fits = omega (arith, h.fits, length-append a b, p.end, l) }

-- nothing is put
pub put_nothing : (at : ℕ) (page : List ℕ) → PagePut at [] page page at
put_nothing at page = record { end = omega arith; put = sym (append-nil (take at page)) }

-- two puts in a row put both texts
pub put-more : {at m r : ℕ} {a b page page' page'' : List ℕ} → PagePut at a page page' m → PagePut m b page' page'' r → PagePut at (a ++ b) page page'' r
put-more {at} {a = a} {b = b} {page = page} p q = record {
  end = simp length-append (omega (arith, p.end, q.end));
  put = q.put ∙ ap (λ (t : List ℕ). t ++ b) p.put ∙ append_assoc (take at page) a b;
}
