use Rattle.table_crashes.proofs.files.crash_files.Goals as goal
