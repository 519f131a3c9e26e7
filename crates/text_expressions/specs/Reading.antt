-- What the readers of expressions answer, by the tokens from a place on.
use Rattle.std.specs.Prelude.{ℕ, ◌+◌, ◌-◌, ◌≤◌, ◌<◌, ◌≡◌, Bool, true, false, List, Result, Ok, Err}
use Rattle.register.specs.declared.Sizes.{Sizes}
use Rattle.text_syntax.specs.Token.{Token}
use Rattle.text_syntax.specs.Form.{Form, formed, unformed}
use Rattle.text_syntax.specs.Written.{Expression}
use Rattle.text_syntax.specs.Grammar.{expression, minimum, operand}
use Rattle.text_syntax.specs.Parts.{depth}
use Rattle.text_syntax.specs.Flat.{summary, merged}
use Rattle.text_joins.specs.declared.Gathered.{Gathered}
use Rattle.text_joins.specs.declared.Unread as J
use Rattle.text_joins.specs.declared.Unread.TheVariants.{NoForm, Deep}
use Rattle.text_places.specs.Place.{tokens_from, Behind}
use Rattle.text_codes.specs.Summary.{summary_of}
use Rattle.text_codes.specs.Codes.{written_codes, Wrote}

-- what the operators of a rank join, and the elements that they join: `+` and `-`, or `<?`
abbrev pub joined_form : Bool → List Token → Form Expression
joined_form true = expression
joined_form false = minimum

abbrev pub element_form : Bool → List Token → Form Expression
element_form true = minimum
element_form false = operand

-- whatever is read here is more than k groups deep
abbrev pub AllDeep : ℕ → Form Expression → Type 0
AllDeep k unformed = Unit {0}
AllDeep k (formed e r) = k < depth e

-- what a reader reads at a place where an operand is due: at most `room` groups deep, with what had been gathered before, in 8 less `room`
-- groups, its codes written behind those before; nothing; or what is deeper
pub record ReadAs (reader : List Token → Form Expression) (s : Sizes) (room : ℕ) (before : Gathered) (line a b : List ℕ) (g : Gathered) : Type 0 where
  pub written : Expression
  pub form_is : reader (tokens_from true line before.end) ≡ formed written (tokens_from false line g.end)
  pub shallow : depth written ≤ room
  pub summary_is : summary_of g.seen ≡ merged (8 - room) (summary_of before.seen) (summary s written)
  pub behind : Behind line before.end g.end
  pub few : g.seen.operators ≤ g.end
  pub wrote : Wrote a b before.used g.used (written_codes written)
  pub few_codes : g.used + before.end ≤ before.used + g.end

pub record Unread (reader : List Token → Form Expression) (line : List ℕ) (at : ℕ) : Type 0 where
  pub none : reader (tokens_from true line at) ≡ unformed

pub record TooDeep (reader : List Token → Form Expression) (room : ℕ) (line : List ℕ) (at : ℕ) : Type 0 where
  pub deep : AllDeep room (reader (tokens_from true line at))

abbrev pub ReadingAt : (List Token → Form Expression) → Sizes → ℕ → Gathered → List ℕ → List ℕ → List ℕ → Result Gathered J.Unread → Type 0
ReadingAt reader s room before line a b (Ok g) = ReadAs reader s room before line a b g
ReadingAt reader s room before line a b (Err NoForm) = Unread reader line before.end
ReadingAt reader s room before line a b (Err Deep) = TooDeep reader room line before.end
