mod Stills
