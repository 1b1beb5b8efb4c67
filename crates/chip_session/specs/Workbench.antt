-- A bench as contracts see it (chosen by this project).
use Rattle.std.specs.Prelude.{ℕ, List}
use Rattle.chip_lang.specs.declared.meter.Meter.{Meter}
use Rattle.chip_asm.specs.Sources.{SourceValue}
use Rattle.chip_asm.specs.Program.{image_of}
use Rattle.chip_session.specs.Session.{Session, Edit, insert_line, replace_line, delete_line, insert_event, replace_event, delete_event}
use Rattle.chip_session.specs.Kept.{KeptRun, session_on, FollowsImage, FollowsEvent}

-- the session; the work done on the source; the last image that the source had, or the empty image;
-- the step up to which the kept run is still valid; and the number of steps executed
pub record Workbench : Type 0 where
  pub session : Session
  pub work : Meter
  pub last_image : List ℕ
  pub reach : ℕ
  pub ran : ℕ

-- a bench with a source and a kept run
abbrev pub workbench : SourceValue → KeptRun → Workbench
workbench source kept =
    record {
      session = session_on source.lines kept;
      work = source.work;
      last_image = kept.last_image;
      reach = kept.reach;
      ran = kept.ran;
    }

-- the kept run of a bench
abbrev pub run_of : Workbench → KeptRun
run_of bench =
    record {
      settings = bench.session.settings;
      keys = bench.session.keys;
      last_image = bench.last_image;
      reach = bench.reach;
      ran = bench.ran;
    }

-- how much of the run an edit of the lines keeps
abbrev pub FollowsLines : Workbench → Workbench → Type 0
FollowsLines old new = FollowsImage (image_of new.session.lines) (run_of old) (run_of new)

-- how much of the run an edit keeps
abbrev pub Follows : Edit → Workbench → Workbench → Type 0
Follows (insert_line number text) old new = FollowsLines old new
Follows (replace_line number text) old new = FollowsLines old new
Follows (delete_line number) old new = FollowsLines old new
Follows (insert_event step key down) old new = FollowsEvent step (run_of old) (run_of new)
Follows (replace_event step key down) old new = FollowsEvent step (run_of old) (run_of new)
Follows (delete_event step key) old new = FollowsEvent step (run_of old) (run_of new)
