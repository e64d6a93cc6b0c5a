-- The files that a call opened. No contract can say what a path leads to, so a file is described by the bytes that it
-- gives or receives.
use Rattle.std.specs.Prelude.{ℕ, ◌≡◌, Option, List}
use Rattle.sat_base.specs.device.Counting.{device_of, new_reader, new_writer, reader_of, writer_of}
use Rattle.sat_base.specs.device.Device.{Reader, Writer}
use Rattle.certify.specs.program.Calls.{Request, Standard, Run, Confirm, Hints, Check}
use Rattle.certify.specs.program.Effects.{Effect, StandardCall, RunCall, ConfirmCall, HintsCall, CheckCall}
use Rattle.certify.specs.declared.program.opened.OpenFile.{OpenFile}
use Rattle.certify.specs.declared.program.opened.OpenCall.{OpenCall}
use Rattle.certify.specs.declared.program.opened.OpenCall.TheVariants as opened

module _ {F : Type 0} (remaining : F → Option (List ℕ)) where
  -- `IsUnread path file` holds if the file was opened by this path, and no call of it is counted yet. `remaining` says
  -- which bytes it has still to give, if they are known.
  pub record IsUnread (path : List ℕ) (file : OpenFile F) : Type 0 where
    pub at : file.path.now ≡ path
    pub unread : reader_of remaining file.device ≡ new_reader (remaining (device_of file.device))

  -- the pair of a file's states as a reader: before (`old`) and after (`new`) a call of the program
  abbrev pub read_of : OpenFile F → OpenFile F → Reader × Reader
  read_of old new = (reader_of remaining old.device, reader_of remaining new.device)

module _ {G : Type 0} (contents : G → Option (List ℕ)) where
  -- `IsUnwritten path file` holds if the file was opened by this path, and no call of it is counted yet. `contents`
  -- says what it holds, if that is known.
  pub record IsUnwritten (path : List ℕ) (file : OpenFile G) : Type 0 where
    pub at : file.path.now ≡ path
    pub unwritten : writer_of contents file.device ≡ new_writer (contents (device_of file.device))

  -- the pair of a file's states as a writer: before (`old`) and after (`new`) a call of the program
  abbrev pub written_of : OpenFile G → OpenFile G → Writer × Writer
  written_of old new = (writer_of contents old.device, writer_of contents new.device)

module _ {F G : Type 0} (remaining : F → Option (List ℕ)) (contents : G → Option (List ℕ)) where
  -- `IsOpenedFor request call` holds if `call` is of the same kind as the request, with open files for its paths and
  -- with its budget, and no call of these files is counted yet.
  abbrev pub IsOpenedFor : Request → OpenCall F G → Type 0
  IsOpenedFor Standard opened.Standard = Unit {0}
  IsOpenedFor (Run s a c budget) (opened.Run run) =
      IsUnread remaining s run.script × IsUnwritten contents a run.answers × IsUnwritten contents c run.certificate × (run.budget ≡ budget)
  IsOpenedFor (Confirm s a c) (opened.Confirm texts) =
      IsUnread remaining s texts.script × IsUnread remaining a texts.answers × IsUnread remaining c texts.certificate
  IsOpenedFor (Hints c h) (opened.Hints files) = IsUnread remaining c files.certificate × IsUnwritten contents h files.hints
  IsOpenedFor (Check h) (opened.Check hints) = IsUnread remaining h hints
  IsOpenedFor request call = ⊥

  -- `DoesCall old new e` holds if the program did what it does for an open call of this kind (such as `RunCall`), with
  -- the effect `e`. Its files are in the states of `old` before, and of `new` after.
  abbrev pub DoesCall : OpenCall F G → OpenCall F G → Effect → Type 0
  DoesCall opened.Standard opened.Standard e = StandardCall e
  DoesCall (opened.Run old) (opened.Run new) e = RunCall old.budget (read_of remaining old.script new.script)
      (written_of contents old.answers new.answers) (written_of contents old.certificate new.certificate) e
  DoesCall (opened.Confirm old) (opened.Confirm new) e = ConfirmCall (read_of remaining old.script new.script)
      (read_of remaining old.answers new.answers) (read_of remaining old.certificate new.certificate) e
  DoesCall (opened.Hints old) (opened.Hints new) e =
      HintsCall (read_of remaining old.certificate new.certificate) (written_of contents old.hints new.hints) e
  DoesCall (opened.Check old) (opened.Check new) e = CheckCall (read_of remaining old new) e
  DoesCall old new e = ⊥
