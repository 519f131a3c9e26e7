-- The fixed plan of a step's readings: the facts that its lines bring about, what each needs, in which order they are listed and in which round each is had.
use Rattle.std.specs.Prelude.{Bool, true, false, ◌&&◌, List, [], ◌∷◌, ◌++◌, map, ℕ, zero, suc, ◌+◌, max, ltb, eqb, length, get_or, take, drop}

-- twice h where that is below k, otherwise h
unfoldable pub doubled : ℕ → ℕ → ℕ
doubled h k = elim (ltb (h + h) k) [ true ↦ h + h | false ↦ h ]

-- h: the largest power of two below k, for k ≥ 2
unfoldable pub half : ℕ → ℕ
half zero = 1
half (suc k) = doubled (half k) (suc k)

-- what a line brings about: Back(w), "the record at w knows u", or Read(w), "u knows w"
pub data Fact : Type 0 where
  back : List ℕ → Fact
  read : List ℕ → Fact

-- the hop word of a fact
abbrev pub word : Fact → List ℕ
word (back w) = w
word (read w) = w

-- the number of its hops
abbrev pub hops : Fact → ℕ
hops f = length (word f)

-- a: the first h hops of a word
unfoldable pub front : List ℕ → List ℕ
front c = take (half (length c)) c

-- b: the rest
unfoldable pub rest : List ℕ → List ℕ
rest c = drop (half (length c)) c

-- the needs of a fact of two or more hops: Back(a) ..
abbrev pub back_need : Fact → Fact
back_need f = back (front (word f))

-- .. and Read(b)
abbrev pub read_need : Fact → Fact
read_need f = read (rest (word f))

-- the hops from which a fact has a line: one for Back, two for Read (Read of at most one hop needs no line)
abbrev pub line_from : Fact → ℕ
line_from (back w) = 1
line_from (read w) = 2

-- a fact with its needs, their needs, and so on
pub data Tree : Type 0 where
  -- no line
  none : Tree
  -- a line that needs nothing: u writes its own number to the record at one hop
  one : Fact → Tree
  -- a line with two needs: the record at a writes, by Back(a) and Read(b)
  both : Fact → Tree → Tree → Tree

-- the tree of a fact, cut off below a depth of n
unfoldable pub tree_within : ℕ → Fact → Tree
tree_within zero f = none
tree_within (suc n) f =
    elim (ltb (hops f) (line_from f)) [
      | true ↦ none
      | false ↦ elim (ltb (hops f) 2) [
        | true ↦ one f
        | false ↦ both f (tree_within n (back_need f)) (tree_within n (read_need f))
      ]
    ]

-- the tree of a fact: each need has fewer hops, so a depth of its hops cuts nothing off (`tree-both`)
unfoldable pub tree : Fact → Tree
tree f = tree_within (hops f) f

-- the rounds of a tree: a line's round is one more than the later of its two needs
unfoldable pub rounds : Tree → ℕ
rounds none = 0
rounds (one f) = 1
rounds (both f a b) = suc (max (rounds a) (rounds b))

-- the round of a fact, 0 where it has no line
unfoldable pub round : Fact → ℕ
round f = rounds (tree f)

-- whether two hop words are the same
unfoldable pub same_word : List ℕ → List ℕ → Bool
same_word [] [] = true
same_word [] (y ∷ v) = false
same_word (x ∷ w) [] = false
same_word (x ∷ w) (y ∷ v) = eqb x y && same_word w v

-- whether two facts are the same
unfoldable pub same_fact : Fact → Fact → Bool
same_fact (back w) (back v) = same_word w v
same_fact (back w) (read v) = false
same_fact (read w) (back v) = false
same_fact (read w) (read v) = same_word w v

-- the place of a fact among the lines l, counted from 0; their number where it is not listed
unfoldable pub line_index : List Fact → Fact → ℕ
line_index [] f = 0
line_index (g ∷ l) f = elim (same_fact g f) [ true ↦ 0 | false ↦ suc (line_index l f) ]

-- whether a fact is listed
unfoldable pub listed : List Fact → Fact → Bool
listed l f = ltb (line_index l f) (length l)

-- the lines l with a tree's behind them: first those of Back(a), then those of Read(b), then its own; a fact already listed is not listed again
unfoldable pub with_tree : List Fact → Tree → List Fact
with_tree l none = l
with_tree l (one f) = elim (listed l f) [ true ↦ l | false ↦ l ++ (f ∷ []) ]
with_tree l (both f a b) = elim (listed l f) [ true ↦ l | false ↦ with_tree (with_tree l a) b ++ (f ∷ []) ]

-- the lines l with those of a fact added
unfoldable pub add : List Fact → Fact → List Fact
add l f = with_tree l (tree f)

-- the lines l with those of some readings added, in order
unfoldable pub add_readings : List Fact → List (List ℕ) → List Fact
add_readings l [] = l
add_readings l (w ∷ ws) = add_readings (add l (read w)) ws

-- the plan of a step's readings, in the order in which they are walked
unfoldable pub plan : List (List ℕ) → List Fact
plan ws = add_readings [] ws

-- a plan's result: its lines, each with its fact (kind and chain) and round
unfoldable pub result : List (List ℕ) → List (Fact × ℕ)
result ws = map (λ f. (f, round f)) (plan ws)

-- the last round of the lines l, 0 where there is none
unfoldable pub last_round : List Fact → ℕ
last_round [] = 0
last_round (f ∷ l) = max (round f) (last_round l)

-- line i of the lines l, counted from 0
abbrev pub line : List Fact → ℕ → Fact
line l i = get_or l i (read [])
