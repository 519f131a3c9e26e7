-- Summaries as the code has them.
use Rattle.std.specs.Prelude.{not}
use Rattle.text_syntax.specs.Flat as F
use Rattle.text_codes.specs.declared.code.TermParts.{TermParts}
use Rattle.text_codes.specs.declared.summary.Summary.{Summary}

abbrev pub summary_of : Summary → F.Summary
summary_of g = record {
  named = g.named;
  kinded = g.kinded;
  reference = g.reference;
  measure = g.measure;
  short = g.short;
  ranged = g.ranged;
  depth = g.depth;
  operators = g.operators;
}

-- of a term
abbrev pub term_summary : TermParts → F.Summary
term_summary p = record {
  named = p.named;
  kinded = p.kinded;
  reference = p.reference;
  measure = not p.reference;
  short = p.short;
  ranged = p.ranged;
  depth = 0;
  operators = 0;
}
