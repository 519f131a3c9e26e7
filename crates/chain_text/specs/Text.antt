-- The text of a chain: `u`, or a field letter and a chain in square brackets.
use Rattle.std.specs.Prelude.{ℕ, ◌+◌, ◌-◌, Bool, true, cond, not, ◌&&◌, List, [], ◌∷◌, ◌++◌, leb, ltb, eqb, length}
use Rattle.register.specs.declared.Sizes.{Sizes}
use Rattle.laws.specs.Lists.{every}

-- "any capital counts as a field letter"
unfoldable pub is_capital : ℕ → Bool
is_capital b = leb 65 b && leb b 90

-- A text that begins with a chain: its letters from the outside in, and what stands behind it; or none.
pub data Form : Type 0 where
  formed : List ℕ → List ℕ → Form
  unformed : Form

-- the text of a chain with these letters: 117 is `u`, 91 `[`, 93 `]`
unfoldable pub printed : List ℕ → List ℕ
printed [] = 117 ∷ []
printed (l ∷ ls) = l ∷ 91 ∷ (printed ls ++ (93 ∷ []))

-- a letter before a chain, closed by `]`
unfoldable pub closed : ℕ → Form → Form
closed l unformed = unformed
closed l (formed ls []) = unformed
closed l (formed ls (b ∷ rest)) = cond (eqb b 93) (formed (l ∷ ls) rest) unformed

-- the chain that a text begins with
unfoldable pub form : List ℕ → Form
form [] = unformed
form (b ∷ []) = cond (eqb b 117) (formed [] []) unformed
form (b ∷ d ∷ rest) =
    cond (eqb b 117) (formed [] (d ∷ rest))
    (cond (is_capital b && eqb d 91) (closed b (form rest)) unformed)

-- the field of a letter: A to H are 0 to 7, M to T 8 to 15
unfoldable pub letter_field : ℕ → ℕ
letter_field l = cond (ltb l 77) (l - 65) (l - 69)

-- letters of references come before M
unfoldable pub is_reference_letter : ℕ → Bool
is_reference_letter l = ltb l 77

-- whether a letter names a field of the register: A, B, .. the first r, M, N, .. the first m
unfoldable pub names : Sizes → ℕ → Bool
names s l = cond (is_reference_letter l) (leb 65 l && ltb l (65 + s.references)) (ltb l (77 + s.measures))

-- "Every field but the outermost is a reference field."
unfoldable pub inner_references : List ℕ → Bool
inner_references [] = true
inner_references (l ∷ ls) = every is_reference_letter ls

-- 9 a letter that names no field, 10 kind, 11 more than 16 hops; 0 for a chain that passes
unfoldable pub letters_refusal : Sizes → List ℕ → ℕ
letters_refusal s ls =
    cond (not (every (names s) ls)) 9
    (cond (not (inner_references ls)) 10
    (cond (ltb 16 (length ls)) 11
    0))

-- "Its hops are its letters from the inside out."
unfoldable pub word_of : List ℕ → List ℕ
word_of [] = []
word_of (l ∷ ls) = word_of ls ++ (letter_field l ∷ [])
