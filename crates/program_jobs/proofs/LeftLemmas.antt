-- What a desk that is closed leaves in its files.
use Rattle.std.proofs.Common.{◌≡◌, ◌≤◌, ℕ, inl, inr, IsTrue, arith, refl, sym, ap, subst, ◌∙◌}
use Rattle.sqlite.specs.Closing.{HoldsAlone, IsCopied}
use Rattle.sqlite.specs.Effect.{Database, IsDatabase}
use Rattle.sqlite.specs.Files.{file_state, over_files, FailsToClose, IsClosed}
use Rattle.sqlite.specs.Held.{Held}
use Rattle.sqlite.specs.State.{State}
use Rattle.sqlite.specs.declared.error.Error.{Error}
use Rattle.sqlite_disk.specs.declared.Disk.{Ghosts}
use Rattle.sqlite_disk.specs.declared.Files.{Files}
use Rattle.sqlite_disk.specs.declared.modelled.Modelled.{Modelled}
use Rattle.sqlite_disk.specs.declared.start.Start.{Ghosts as Start}
use Rattle.sqlite_std_file.specs.declared.host.Host.{Host}
use Rattle.sqlite_store.specs.FileStore.{view}
use Rattle.sqlite_store.specs.Laws.{settled_at}
use Rattle.sqlite_store.specs.declared.store.FileStore.{FileStore}
use Rattle.sqlite_trees.specs.Tree.{Trees}
use Rattle.sqlite_trees.specs.View.{IsClean}
use Rattle.sqlite_wal.proofs.LogLemmas.{SeenMayStay}
use Rattle.sqlite_wal.specs.Recovery.{Image}
use Rattle.table_content.specs.Content.{Content}
use Rattle.table_history.specs.History.{schema_at}
use Rattle.table_history.specs.Making.{AreUnder}
use Rattle.table_history.specs.declared.history.TheConstants.{NEWEST}
use Rattle.desk_tables.proofs.KeptLemmas.{kept_shows}
use Rattle.table_opening.proofs.HeldLemmas.{shows_newest}
use Rattle.desk_tables.specs.Files.{HoldDesk, HoldCopy, IsFoundIn}
use Rattle.table_opening.specs.Shown.{IsDeskUnder, AreTablesUnder, HoldTables}
use Rattle.desk_tables.specs.declared.desk.TableDesk.{TableDesk}
use Rattle.program_jobs.specs.InFile.{FileDesk, host, file_disk, HasHonestFile, IsKeptInFile, IsOpenedInFile}
use Rattle.program_jobs.specs.Left.{AreCopied, AreUncopied, content_in_file, FilesLeft, IsClosedTo, IsLeftBy, IsSameDesk}
use Rattle.program_jobs.specs.declared.left.LeftFiles.TheVariants.{Nothing, Untouched, Unconnected, Copied, Uncopied}

-- what was committed of a desk under a schema are its tables
committed_under : (k : ℕ) (c : Content) (s : State) → IsDeskUnder k c s → AreTablesUnder k c s.committed.trees
committed_under k c s it =
    let same : s.now.trees ≡ s.committed.trees = ap (λ (d : Database). d.trees) it.settled in
    record {
      sound = subst (λ (t : Trees). IsDatabase (record { schema = schema_at k; trees = t })) same
          (subst (λ h. IsDatabase (record { schema = h; trees = s.now.trees })) it.schema it.sound);
      shown = subst (AreUnder k c) same it.shown;
    }

module _ {D : Type 0} {g : Ghosts D} (d : TableDesk (FileStore D g) over_files) where
  -- the tables that a kept desk last committed
  tables : HasHonestFile d → IsTrue (file_state d.conn).is_open → IsKeptInFile d → HoldTables (content_in_file d) (file_state d.conn).committed.trees
  tables honest served kept = (
    NEWEST,
    committed_under NEWEST (content_in_file d) (file_state d.conn)
        (shows_newest (content_in_file d) (file_state d.conn) (kept_shows d kept) honest served),
  )

  copy : HasHonestFile d → IsTrue (file_state d.conn).is_open → IsKeptInFile d → (image : Image)
      → HoldsAlone image (file_state d.conn).committed.trees → HoldCopy image (content_in_file d)
  copy honest served kept image held =
      let all = tables honest served kept in (
        record { trees = (file_state d.conn).committed.trees; database = held.both; tables = all; kept = kept.content },
        record { trees = (file_state d.conn).committed.trees; database = held.alone; tables = all; kept = kept.content },
      )

  pub copied : (conn : Held (FileStore D g)) (files : Files D) → conn ≡ d.conn → IsCopied conn files → AreCopied d files
  copied conn files is was =
      let it : IsCopied d.conn files = subst (λ (h : Held (FileStore D g)). IsCopied h files) is was in
      record {
        was_honest = it.was_clean;
        hold = λ kept. record {
          now = copy it.was_clean it.was_open kept _ it.seen;
          crash = λ image may. copy it.was_clean it.was_open kept image (it.left image may);
        };
      }

  pub uncopied : (conn : Held (FileStore D g)) (error : Error) (last : FileStore D g) → SeenMayStay g → conn ≡ d.conn
      → IsClosed conn last → (IsClean (view last) → FailsToClose conn last error) → IsClean (view last) → AreUncopied d error last
  uncopied conn error last stays is was why clean =
      let closed : IsClosed d.conn last = subst (λ (h : Held (FileStore D g)). IsClosed h last) is was in
      let honest : HasHonestFile d = omega (arith, closed.quiet.clean, clean) in
      record {
        was_honest = honest;
        why = subst (λ (h : Held (FileStore D g)). FailsToClose h last error) is (why clean);
        crash = closed.quiet.outcomes;
        hold = λ kept served db may.
            subst (HoldTables (content_in_file d)) (sym (settled_at d.conn.store stays db served (closed.quiet.outcomes db may)))
            (tables honest served kept);
      }

  -- what is opened over a copy is the desk
  pub same_again : {E : Type 0} {h : Ghosts E} (again : TableDesk (FileStore E h) over_files) (files : Files D) (image : Image)
      → AreCopied d files → IsKeptInFile d → IsFoundIn g files image → IsOpenedInFile image again → HasHonestFile again → IsSameDesk d again
  same_again again files image left kept (found, may, is) opened honest =
      let both = (left.hold kept).crash found may in
      let held : HoldDesk image (content_in_file d) = elim is [
        | inl same ↦ subst (λ (i : Image). HoldDesk i (content_in_file d)) (sym same) both.0
        | inr alone ↦ subst (λ (i : Image). HoldDesk i (content_in_file d)) (sym alone) both.1
      ] in
      let it = opened.found (content_in_file d) held honest in
      record { kept = it.0; desk = it.1; keeping = it.2 }

-- what is left of a desk whose connection is closed
pub left_by : {S : Type 0} (start : Start S) (d : FileDesk start) (conn : Held (FileStore (Modelled Host S host start) (file_disk start)))
    (left : FilesLeft start) → conn ≡ d.conn → IsClosedTo start conn left → IsLeftBy start d left
left_by start d conn Nothing is closed = absurd closed
left_by start d conn (Untouched files) is closed = absurd closed
left_by start d conn (Unconnected rest) is closed = absurd closed
left_by start d conn (Copied files) is closed = λ honest. copied d conn files is (closed honest)
left_by start d conn (Uncopied error last) is closed = uncopied d conn error last (λ f. inl refl) is closed.0 closed.1
