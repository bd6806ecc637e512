-- A desk in the two files of a database: the log and the database file.
use Rattle.std.specs.Prelude.{◌≡◌, ◌⊎◌, []}
use Rattle.sqlite.specs.Files.{HoldsDatabase, image_of}
use Rattle.sqlite_disk.specs.declared.Disk as disk
use Rattle.sqlite_disk.specs.declared.Files.{Files}
use Rattle.sqlite_trees.specs.Tree.{Trees}
use Rattle.sqlite_wal.specs.Files.{outcomes}
use Rattle.sqlite_wal.specs.Recovery.{Image}
use Rattle.table_content.specs.Content.{Content}
use Rattle.table_content.specs.Kept.{IsKeptContent}
use Rattle.table_opening.specs.Shown.{HoldTables}

-- the two files hold a desk with this content, which is kept, under some schema of a desk
pub record HoldDesk (image : Image) (c : Content) : Type 0 where
  pub trees : Trees
  pub database : ∥ HoldsDatabase image trees ∥₁
  pub tables : HoldTables c trees
  pub kept : IsKeptContent c

-- the two files hold it, and so does the database file with no log
abbrev pub HoldCopy : Image → Content → Type 0
HoldCopy image c = HoldDesk image c × HoldDesk (record image { log = [] }) c

module _ {D : Type 0} (g : disk.Ghosts D) (files : Files D) where
  -- two files are left with this desk: as they are now, and after a crash at this moment
  pub record LeaveDesk (c : Content) : Type 0 where
    pub now : HoldCopy (image_of g files) c
    pub crash : (image : Image) → outcomes g files.log files.db image → HoldCopy image c

  -- What is found where these files are opened again, perhaps after a crash, with the log or
  -- without it.
  -- A process that ends leaves what it wrote, which is one of the outcomes of a crash.
  abbrev pub IsFoundIn : Image → Type 0
  IsFoundIn image = (left : Image) × outcomes g files.log files.db left × ((image ≡ left) ⊎ (image ≡ record left { log = [] }))
