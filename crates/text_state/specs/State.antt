-- What the text reader keeps of the lines so far.
use Rattle.std.specs.Prelude.{ℕ, ◌+◌, max, Bool, true, false, List, get_or, set, replicate}
use Rattle.plan_lines.specs.declared.Plan.{Plan}
use Rattle.program.specs.declared.rule.Rule.{Rule}
use Rattle.program.specs.declared.rule.Rule.TheVariants.{Set, Combine, Remote}
use Rattle.program.specs.declared.rule.Sort.{Sort}
use Rattle.program.specs.declared.rule.Sort.TheVariants.{Least, Total}
use Rattle.text_rules.specs.declared.line.LineRead.{LineRead}
use Rattle.text_rules.specs.declared.line.LineRead.TheVariants as L
use Rattle.text_rules.specs.Text.{setting_in, with_step, last_of}
use Rattle.text_rules.specs.declared.around.Around.{Around}
use Rattle.text_rules.specs.declared.around.Around.TheVariants.{Outside, Unused}
use Rattle.text_state.specs.declared.tally.Tally.{Tally}
use Rattle.text_state.specs.declared.state.State.{State}
use Rattle.program.specs.declared.frame.Frame.{Frame}

-- at the start of a step
unfoldable pub no_rules : Tally
no_rules = record { rules = 0; remote = false; fields = replicate 16 false; leasts = replicate 16 false; totals = replicate 16 false }

-- 14: the field has taken the other sort
unfoldable pub other_sort : Tally → Rule → Bool
other_sort o (Set f x) = false
other_sort o (Combine f op x y) = false
other_sort o (Remote Least f c x) = get_or o.totals f false
other_sort o (Remote Total f c x) = get_or o.leasts f false

-- one more rule, that writes field f and is not remote
unfoldable pub more_rules : Tally → ℕ → Tally
more_rules o f = record { rules = o.rules + 1; remote = o.remote; fields = set o.fields f true; leasts = o.leasts; totals = o.totals }

-- a remote rule of this sort, that writes field f
unfoldable pub with_remote : Tally → Sort → ℕ → Tally
with_remote o Least f = record { rules = o.rules; remote = true; fields = o.fields; leasts = set o.leasts f true; totals = o.totals }
with_remote o Total f = record { rules = o.rules; remote = true; fields = o.fields; leasts = o.leasts; totals = set o.totals f true }

-- behind one more rule of the open step
unfoldable pub with_rule : Tally → Rule → Tally
with_rule o (Set f x) = more_rules o f
with_rule o (Combine f op x y) = more_rules o f
with_rule o (Remote k f c x) = with_remote (more_rules o f) k f

-- the frame of the open step, and of a step that is the last of its loop
unfoldable pub frame_of : State → Plan → List Bool → Frame
frame_of st p w = record {
  rules = st.tally.rules;
  remote = st.tally.remote;
  fields = st.tally.fields;
  setting = setting_in st.around;
  plan = p;
  wanted = w;
}

unfoldable pub last_frame : Frame → Frame
last_frame f = record { rules = f.rules; remote = f.remote; fields = f.fields; setting = last_of f.setting; plan = f.plan; wanted = f.wanted }

-- before the first line
unfoldable pub start_state : State
start_state = record { steps = 0; lines = 0; around = Outside; in_step = false; tally = no_rules }

-- the same steps, with this loop around, a step open or not, and this kept of its rules
unfoldable pub standing : State → Around → Bool → Tally → State
standing st a o x = record { steps = st.steps; lines = st.lines; around = a; in_step = o; tally = x }

-- behind a line that has passed; n is the number of lines of the open step's plan
unfoldable pub advance_of : State → ℕ → LineRead → State
advance_of st n L.Step = standing st st.around true no_rules
advance_of st n L.End = record { steps = st.steps + 1; lines = max st.lines n; around = with_step st.around; in_step = false; tally = no_rules }
advance_of st n L.Done = standing st Outside false no_rules
advance_of st n (L.Loop f named) = standing st (Unused f) false no_rules
advance_of st n (L.Rule x c) = standing st st.around true (with_rule st.tally x.rule)
advance_of st n L.NoForm = st
