mod Shared
