mod Causes
