use Rattle.std.proofs.Common.{◌≡◌, ◌++◌, drop}
use Rattle.sat_checker.specs.announcements.Transcripts.{in_user_names}
use Rattle.sat_checker.specs.listeners.AnnouncementView.{variables_of}
use Rattle.sat_checker.proofs.announce.transcript.Transcript.rename.Given as goal

-- the names in the buffer, followed by those of the remaining literals, are the names of all literals
abbrev pub invariant-loop-lit : goal.invariant-loop-lit
invariant-loop-lit l = l.self.lits.items ++ in_user_names (variables_of l.names) (drop l.lit-index l.literals) ≡ in_user_names (variables_of l.names) l.literals
